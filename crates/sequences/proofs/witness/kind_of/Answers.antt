use Rattle.std.proofs.Common.{◌≡◌, ℕ, ◌&&◌, false, leb, refl, sym, ap, ◌∙◌, arith}
use Rattle.std.proofs.lemmas.Result.{err_from_is_err_and}
use Rattle.std.proofs.lemmas.Bool.{eq-eqb, cond-true, cond-false}
use Rattle.std.proofs.lemmas.Bool.Decides.{nat_tests}
use Rattle.rows.proofs.Chains.{stops, goes, checked, failed}
use Rattle.sequences.specs.Handed.{plain_piece, piece_of}
use Rattle.formats.specs.Witnesses.{PlacePart, InnerPart, is_place, kind_says}
use Rattle.formats.proofs.PieceTests.{given, given_fault}
use Rattle.sequences.proofs.witness.kind_of.Goals as goal

pub returns-in_err-reaches : goal.returns-in_err-reaches
unfolding kind_says
returns-in_err-reaches c =
    let p = err_from_is_err_and c.from_residual.result c.from_residual.ensures.1 in
    rw (p.1, p.2) (given_fault _ _ _ (stops _ _ _ c.in_err-reaches.ensures))

pub returns-in-1 : goal.returns-in-1
unfolding kind_says
returns-in-1 c =
    let e = sym c.byte_at.ensures ∙ c.in-1.is in
    given _ _ _ (goes _ _ _ c.in_ok-reaches.ensures (checked _ _ (rw e refl)))
    (sym (cond-true (is_place (piece_of (plain_piece c.args.piece))) (PlacePart (piece_of (plain_piece c.args.piece))) (InnerPart (piece_of (plain_piece c.args.piece))) (eq-eqb _ _ e)))

pub returns-in-2 : goal.returns-in-2
unfolding kind_says
returns-in-2 c =
    let e = sym c.byte_at.ensures ∙ c.in-2.is in
    given _ _ _ (goes _ _ _ c.in_ok-reaches.ensures (checked _ _ (rw e refl)))
    (sym (cond-false (is_place (piece_of (plain_piece c.args.piece))) (PlacePart (piece_of (plain_piece c.args.piece))) (InnerPart (piece_of (plain_piece c.args.piece))) (rw e refl)))

pub returns-in_default : goal.returns-in_default
unfolding kind_says
returns-in_default c =
    let n : (leb 1 c.byte_at.result && leb c.byte_at.result 2) ≡ false = grind (arith, nat_tests) in
    rw c.fault.ensures (given_fault _ _ _ (goes _ _ _ c.in_ok-reaches.ensures (failed _ _ (ap (λ (b : ℕ). leb 1 b && leb b 2) (sym c.byte_at.ensures) ∙ n))))
