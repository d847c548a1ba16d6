use Rattle.std.proofs.Common.{◌≡◌, ℕ, ◌+◌, ◌*◌, Ok, Err, Result, unwrap_or, refl, ◌∙◌, subst, rules}
use Rattle.std.specs.Result.{MatchResult, IsErrAnd}
use Rattle.rows.specs.declared.fault.Fault.{Fault}
use Rattle.rows.specs.declared.fault.FaultKind.{FaultKind}
use Rattle.rows.specs.declared.limits.Limit.TheVariants.{WrittenNumber}
use Rattle.rows.specs.declared.numbers.Numbers.{Numbers}
use Rattle.rows.specs.declared.numbers.TooLarge.{TooLarge}
use Rattle.rows.specs.Limits.{magnitude_of}
use Rattle.rows.specs.Made.{FirstOver}
use Rattle.rows.specs.Shapes.{Within}
use Rattle.records.specs.declared.shape.Shape.{Shape}
use Rattle.records.specs.AsWritten.{WrittenAs}
use Rattle.records.specs.Slots.{slot_of}
use Rattle.formats.specs.Pieces.{rest_from, fault_at}
use Rattle.formats.specs.StoredRows.{row_at}
use Rattle.formats.proofs.PieceTests.{given, given_fault}
use Rattle.formats.proofs.RowItems.{row_written, row_too_large}
use Rattle.sequences.specs.declared.piece.Piece.{Piece}
use Rattle.sequences.specs.Handed.{plain_piece}
use Rattle.sequences.specs.StoredMade.{row_from}
use Rattle.sequences.proofs.stored.row_at.Goals as goal

-- the value that is made of the numbers, or the fault at the first that is too large
row_made : {T : Type 0} (plain : T → Numbers) (kind : FaultKind) (shape : Shape) (p : Piece) (at : ℕ) (numbers : Numbers) (made : Result T TooLarge) (r : Result T Fault) →
    numbers ≡ row_at shape p.rest.now at → WrittenAs plain numbers made →
    MatchResult made (λ x. r ≡ Ok x) (λ e. IsErrAnd r (λ f. f ≡ fault_at kind (rest_from p.offset + at + 4 * unwrap_or (slot_of shape e.item) 0))) → row_from plain kind shape p at r
row_made plain kind shape p at numbers (Ok x) r e w h =
    rw h (given _ _ _ (row_written kind shape p.offset p.rest.now at (subst (Within (magnitude_of WrittenNumber)) e w.1)) (w.0 ∙ e))
row_made plain kind shape p at numbers (Err x) (Ok y) e w h = absurd h
row_made plain kind shape p at numbers (Err x) (Err f) e w h =
    let l = subst (λ (row : Numbers). FirstOver (magnitude_of WrittenNumber) row x.item) e w in
    rw h (given_fault _ _ _ (row_too_large kind shape p.offset p.rest.now at x.item _ l refl))

pub returns : goal.returns
returns g c = row_made g.T.Written.plain c.args.kind c.args.shape (plain_piece c.args.piece) c.args.at c.numbers_at.result c.written.result c.map_err.result c.numbers_at.ensures c.written.ensures (search rules)
