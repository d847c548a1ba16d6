use Rattle.std.proofs.Common.{ap, ◌∙◌}
use Rattle.std.proofs.lemmas.Result.{err_from_is_err_and}
use Rattle.rows.proofs.Chains.{stops, goes}
use Rattle.formats.specs.Witnesses.{Progress, named_in, pieces_of, references_say, content_says}
use Rattle.formats.proofs.PieceTests.{given_ok, given_err}
use Rattle.sequences.specs.TableGiven.{shape_in, transitions_in}
use Rattle.sequences.proofs.admission.content_test.Goals as goal

pub returns-in_err-noted : goal.returns-in_err-noted
unfolding content_says
returns-in_err-noted c =
    let p = err_from_is_err_and c.from_residual.result c.from_residual.ensures.1 in
    rw (p.1, p.2) (stops _ _ _ (given_err _ _ _ c.in_err-noted.ensures))

pub returns : goal.returns
unfolding content_says
returns c =
    let o = given_ok _ _ _ c.in_ok-noted.ensures in
    goes _ _ _ o.0 (c.references_test.ensures ∙ ap (λ (s : Progress). references_say (shape_in c.args.table) (named_in (transitions_in c.args.table) s) (pieces_of c.args.bytes.now)) o.1)
