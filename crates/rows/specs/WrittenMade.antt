-- What is made of a caller's numbers as written ones, and what the opposite of a row says.
use Rattle.std.specs.Prelude.{◌≡◌, List, ℤ, Ok, Err, Result}
use Rattle.rows.specs.declared.limits.Limit.TheVariants.{WrittenNumber}
use Rattle.rows.specs.declared.numbers.Numbers.{Numbers}
use Rattle.rows.specs.declared.numbers.TooLarge.{TooLarge}
use Rattle.rows.specs.declared.written.WrittenRow.{WrittenRow}
use Rattle.rows.specs.Limits.{magnitude_of}
use Rattle.rows.specs.Made.{FirstOver}
use Rattle.rows.specs.Shapes.{Within, Meets}

abbrev pub WrittenFrom : Numbers → Result WrittenRow TooLarge → Type 0
WrittenFrom numbers (Ok row) = (row.numbers ≡ numbers) × Within (magnitude_of WrittenNumber) numbers
WrittenFrom numbers (Err e) = FirstOver (magnitude_of WrittenNumber) numbers e.item

-- at every point of whole numbers exactly one of the two rows is met
pub record TurnsRound (row other : Numbers) : Type 0 where
  pub not_both : (point : List ℤ) → Meets point row → Meets point other → ⊥
  pub one : (point : List ℤ) → (Meets point row → ⊥) → Meets point other
