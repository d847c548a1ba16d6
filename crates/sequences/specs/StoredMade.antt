-- What the code makes of stored rows and expressions: the values that the definitions give, or the first fault.
use Rattle.std.specs.Prelude.{◌≡◌, ℕ, Ok, Err, Result}
use Rattle.rows.specs.declared.fault.Fault.{Fault}
use Rattle.rows.specs.declared.fault.FaultKind.{FaultKind}
use Rattle.rows.specs.declared.numbers.Numbers.{Numbers}
use Rattle.records.specs.declared.bounded.BoundedList.{BoundedList}
use Rattle.sequences.specs.declared.piece.Piece.{Piece}
use Rattle.records.specs.declared.shape.Shape.{Shape}
use Rattle.records.specs.Bounded.{plain_list}
use Rattle.formats.specs.Pieces.{giving}
use Rattle.formats.specs.StoredRows.{row_at, row_says, rows_at, rows_say}

-- a result with its plain value in the place of the code's
abbrev pub plainly : {T X : Type 0} → (T → X) → Result T Fault → Result X Fault
plainly plain (Ok x) = Ok (plain x)
plainly plain (Err f) = Err f

abbrev pub row_from : {T : Type 0} → (T → Numbers) → FaultKind → Shape → Piece → ℕ → Result T Fault → Type 0
row_from plain kind shape p at r =
    plainly plain r ≡ giving (row_says kind shape p.offset p.rest.now at) (row_at shape p.rest.now at)

abbrev pub rows_from : {T : Type 0} {N : ℕ} → (T → Numbers) → FaultKind → Shape → Piece → ℕ → ℕ → Result (BoundedList T N) Fault → Type 0
rows_from plain kind shape p at count r =
    plainly (plain_list plain) r ≡ giving (rows_say kind shape p.offset p.rest.now at count) (rows_at shape p.rest.now at count)
