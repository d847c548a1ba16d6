use Rattle.std.proofs.Common.{ℕ, ◌+◌, length, ap, ◌∙◌}
use Rattle.std.proofs.lemmas.Result.{err_from_is_err_and}
use Rattle.rows.proofs.Chains.{stops, goes}
use Rattle.sequences.specs.Handed.{reader_of}
use Rattle.formats.specs.Pieces.{rest_from}
use Rattle.formats.specs.Walks.{piece_data}
use Rattle.formats.specs.Witnesses.{part_of, kind_says}
use Rattle.sequences.proofs.HandedSteps.{handed_none, passed_none, handed_fault, passed_fault, handed_some, passed_some}
use Rattle.formats.proofs.PieceTests.{given_ok, given_err}
use Rattle.sequences.proofs.RecordsSame.{same_piece, same_reader}
use Rattle.sequences.proofs.witness.WitnessReader.next_located.Goals as goal

pub returns-then-self : goal.returns-then-self
returns-then-self c = record { handed = handed_none (reader_of c.args.self.now) c.if-self.true; stands = passed_none (reader_of c.args.self.now) c.if-self.true }

pub returns-in_err-piece : goal.returns-in_err-piece
returns-in_err-piece c =
    let p = err_from_is_err_and c.from_residual.result c.from_residual.ensures.1 in
    let r = reader_of c.args.self.now in
    let s = stops _ (kind_says (piece_data r.bytes r.at)) _ c.in_err-piece.ensures in
    rw (p.1, p.2) (record { handed = handed_fault r _ c.if-self.false s; stands = passed_fault r _ c.if-self.false s })

pub returns-in_err-part : goal.returns-in_err-part
returns-in_err-part c =
    let p = err_from_is_err_and c.from_residual-in_err-part.result c.from_residual-in_err-part.ensures.1 in
    let r = reader_of c.args.self.now in
    let i = c.in_ok-piece.ensures in
    let s = goes _ _ _ i.0 (given_err _ _ _ c.in_err-part.ensures ∙ ap kind_says (same_piece i.1.offset i.1.rest)) in
    rw (p.1, p.2) (record { handed = handed_fault r _ c.if-self.false s; stands = passed_fault r _ c.if-self.false s })

pub returns : goal.returns
returns c =
    let r = reader_of c.args.self.now in
    let i = c.in_ok-piece.ensures in
    let o = given_ok _ _ _ c.in_ok-part.ensures in
    let e = same_piece i.1.offset i.1.rest in
    let s = goes _ _ _ i.0 (o.0 ∙ ap kind_says e) in
    record {
      handed = handed_some r _ c.if-self.false s (o.1 ∙ ap part_of e);
      stands = same_reader (c.end-self.ensures ∙ ap (λ (o : ℕ). rest_from o + length c.in_ok-piece.piece.rest.now) i.1.offset ∙ ap (λ (n : ℕ). rest_from r.at + n) i.1.long) ∙ passed_some r c.if-self.false s;
    }
