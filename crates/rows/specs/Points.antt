-- Values within a limit.
use Rattle.std.specs.Prelude.{◌≡◌, ℕ, ◌*◌, ◌<◌, true, List, ℤ, pos, slice_index_or}
use Rattle.rows.specs.declared.limits.Limit.TheVariants.{WrittenNumber, StateValue}
use Rattle.rows.specs.Limits.{columns, magnitude_of, within}

-- each of the first n values lies within the limit
abbrev pub WithinFirst : ℕ → ℕ → List ℤ → Type 0
WithinFirst n most values = (k : ℕ) → k < n → within most (slice_index_or values k (pos 0)) ≡ true

-- the value of every column lies within the limit
abbrev pub ValuesWithin : ℕ → List ℤ → Type 0
ValuesWithin most values = WithinFirst columns most values

-- what no sum of written coefficient × state value over all columns passes
abbrev pub dot_limit : ℕ
dot_limit = columns * (magnitude_of WrittenNumber * magnitude_of StateValue)
