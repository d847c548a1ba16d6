-- How large the numbers are of which a goal is made.
use Rattle.std.specs.Prelude.{ℕ, ◌*◌, ℤ, pos, neg_ℤ, ◌≤ℤ◌}
use Rattle.rows.specs.declared.limits.Limit.TheVariants.{WrittenNumber}
use Rattle.rows.specs.Limits.{columns, magnitude_of}

-- what no sum of written coefficient × written number over the columns passes
abbrev pub sum_limit : ℕ
sum_limit = columns * (magnitude_of WrittenNumber * magnitude_of WrittenNumber)

-- a written number and such a sum
pub record Addends (number sum : ℤ) : Type 0 where
  pub number_low : neg_ℤ (pos (magnitude_of WrittenNumber)) ≤ℤ number
  pub number_high : number ≤ℤ pos (magnitude_of WrittenNumber)
  pub sum_low : neg_ℤ (pos sum_limit) ≤ℤ sum
  pub sum_high : sum ≤ℤ pos sum_limit
