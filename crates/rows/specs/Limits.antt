-- The limits on numbers, each stated once, and what it is to lie within one.
use Rattle.std.specs.Prelude.{ℕ, Bool, ◌&&◌, ℤ, pos, neg_ℤ, int_le}
use Rattle.rows.specs.declared.limits.Limit.{Limit}
use Rattle.rows.specs.declared.limits.Limit.TheVariants.{RowNumber, WrittenNumber, StateValue}

-- the columns of a row, and so also the item of its bound in a fault
abbrev pub columns : ℕ
columns = 8

-- the numbers of a row: its coefficients, then its bound
abbrev pub items : ℕ
items = 9

-- the greatest magnitude of a number, by where it stands
abbrev pub magnitude_of : Limit → ℕ
magnitude_of RowNumber = 20000000000000
magnitude_of WrittenNumber = 1000000
magnitude_of StateValue = 1000000000

-- whether z lies within ±most
abbrev pub within : ℕ → ℤ → Bool
within most z = int_le (neg_ℤ (pos most)) z && int_le z (pos most)
