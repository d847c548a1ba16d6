-- Rows and expressions as they stand in bytes: which number is that of which column, their values, and their tests.
use Rattle.std.specs.Prelude.{ℕ, ◌+◌, ◌*◌, List, ℤ, pos, Some, None, Ok, Err, Option}
use Rattle.rows.specs.declared.fault.FaultKind.{FaultKind}
use Rattle.rows.specs.declared.limits.Limit.TheVariants.{WrittenNumber}
use Rattle.rows.specs.declared.numbers.Numbers.{Numbers}
use Rattle.rows.specs.Bytes.{number_at}
use Rattle.rows.specs.Faults.{Said}
use Rattle.rows.specs.Limits.{columns, magnitude_of}
use Rattle.rows.specs.Shapes.{first_beyond}
use Rattle.records.specs.declared.shape.Shape.{Shape}
use Rattle.records.specs.Slots.{number_bytes, stride, slot_of}
use Rattle.formats.specs.Pieces.{each, each_says, fault_at, rest_from}

-- the number in a slot; a column that is not stored is zero
abbrev pub slot_number : List ℕ → ℕ → Option ℕ → ℤ
slot_number bytes at None = pos 0
slot_number bytes at (Some slot) = number_at bytes (at + number_bytes * slot)

unfoldable pub item_at : Shape → List ℕ → ℕ → ℕ → ℤ
item_at shape bytes at item = slot_number bytes at (slot_of shape item)

-- the row that stands at an offset
abbrev pub row_at : Shape → List ℕ → ℕ → Numbers
row_at shape bytes at = record { coefficients = each (item_at shape bytes at) columns; bound = item_at shape bytes at columns }

-- where the number of an item stands
abbrev pub slot_place : ℕ → Option ℕ → ℕ
slot_place at None = at
slot_place at (Some slot) = at + number_bytes * slot

-- the fault at the first number that is too large to be written; the piece begins at `offset`
abbrev pub unless_written : FaultKind → Shape → ℕ → Option ℕ → Said
unless_written kind shape place None = Ok tt
unless_written kind shape place (Some item) = Err (fault_at kind (slot_place place (slot_of shape item)))

unfoldable pub row_says : FaultKind → Shape → ℕ → List ℕ → ℕ → Said
row_says kind shape offset bytes at = unless_written kind shape (rest_from offset + at) (first_beyond (magnitude_of WrittenNumber) (row_at shape bytes at))

-- rows one behind another
abbrev pub rows_at : Shape → List ℕ → ℕ → ℕ → List Numbers
rows_at shape bytes at count = each (λ i. row_at shape bytes (at + stride shape * i)) count

abbrev pub rows_say : FaultKind → Shape → ℕ → List ℕ → ℕ → ℕ → Said
rows_say kind shape offset bytes at count = each_says (λ i. row_says kind shape offset bytes (at + stride shape * i)) count
