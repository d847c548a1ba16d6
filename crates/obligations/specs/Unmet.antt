-- The first row of a list that a point does not meet.
use Rattle.std.specs.Prelude.{◌≡◌, ℕ, List, length, ℤ, Option, MatchOption}
use Rattle.rows.specs.declared.numbers.Numbers.{Numbers}
use Rattle.rows.specs.Firsts.{first_below, IsFirst}
use Rattle.rows.specs.Shapes.{MeetsAll}
use Rattle.semantics.specs.Plans.{unmet}

-- the index of the first row that is not met: as a value, as a relation, and whether all are met
pub record FirstUnmet (point : List ℤ) (rows : List Numbers) (r : Option ℕ) : Type 0 where
  pub value : r ≡ first_below (unmet point rows) (length rows)
  pub first : IsFirst (unmet point rows) (length rows) r
  pub all : MatchOption r (MeetsAll point rows) (λ i. MeetsAll point rows → ⊥)
