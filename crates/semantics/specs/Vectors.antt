-- The values of a state and the choices of a step: lists of unlimited whole numbers, six and two of them, those that a
-- table does not use zero. Together they are a point, at which rows are met and expressions have a value.
use Rattle.std.specs.Prelude.{◌≡◌, ℕ, ◌≤◌, List, ◌++◌, length, take, replicate, ℤ, pos, slice_index_or}
use Rattle.rows.specs.declared.numbers.Numbers.{Numbers}
use Rattle.rows.specs.Shapes.{MeetsAll}
use Rattle.records.specs.Limits.{most_choices}

-- n numbers: these, and zeros behind them
abbrev pub padded : ℕ → List ℤ → List ℤ
padded n xs = take n (xs ++ replicate n (pos 0))

-- n numbers, those from `used` on zero
pub record Filled (n used : ℕ) (xs : List ℤ) : Type 0 where
  pub sized : length xs ≡ n
  pub unused : (k : ℕ) → used ≤ k → slice_index_or xs k (pos 0) ≡ pos 0

-- the point of a state and of choices, and of a state alone
abbrev pub point_of : List ℤ → List ℤ → List ℤ
point_of state choices = state ++ choices

abbrev pub no_choices : List ℤ
no_choices = replicate most_choices (pos 0)

abbrev pub at_rest : List ℤ → List ℤ
at_rest state = point_of state no_choices

-- the state meets all of some rows over the values
abbrev pub Holds : List ℤ → List Numbers → Type 0
Holds state rows = MeetsAll (at_rest state) rows
