-- What is made of plain numbers as a row or an expression of written numbers.
use Rattle.std.specs.Prelude.{◌≡◌, Ok, Err, Result}
use Rattle.rows.specs.declared.limits.Limit.TheVariants.{WrittenNumber}
use Rattle.rows.specs.declared.numbers.Numbers.{Numbers}
use Rattle.rows.specs.declared.numbers.TooLarge.{TooLarge}
use Rattle.rows.specs.Limits.{magnitude_of}
use Rattle.rows.specs.Made.{FirstOver}
use Rattle.rows.specs.Shapes.{Within}

-- the value with exactly these numbers where all are written numbers, else the first, by its item, that is not
abbrev pub WrittenAs : {T : Type 0} → (T → Numbers) → Numbers → Result T TooLarge → Type 0
WrittenAs plain numbers (Ok x) = (plain x ≡ numbers) × Within (magnitude_of WrittenNumber) numbers
WrittenAs plain numbers (Err e) = FirstOver (magnitude_of WrittenNumber) numbers e.item
