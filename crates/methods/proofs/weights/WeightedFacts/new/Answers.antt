use Rattle.std.proofs.Common.{sym}
use Rattle.std.proofs.lemmas.Result.{err_from_is_err_and}
use Rattle.methods.specs.Zero.{no_numbers}
use Rattle.methods.proofs.WeightTests.{weights_fault, weights_more, weights_all, weights_yes}
use Rattle.methods.proofs.weights.WeightedFacts.new.Goals as goal

pub returns-in_err-weight_at : goal.returns-in_err-weight_at
returns-in_err-weight_at c =
    let p = err_from_is_err_and c.from_residual.result c.from_residual.ensures.1 in
    rw (p.1, p.2) (weights_fault c.args.certificate.now c.args.from _ _ c.loop-index.invariant no_numbers _ c.loop-index-test.true c.in_err-weight_at.ensures)

pub loop-index-preserved : goal.loop-index-preserved
loop-index-preserved c = weights_more c.args.certificate.now c.args.from _ _ c.loop-index.invariant no_numbers c.loop-index-test.true c.in_ok-weight_at.ensures.0

pub invariant_of-result : goal.invariant_of-result
invariant_of-result c =
    let w = weights_all c.args.certificate.now c.args.from _ _ c.loop-index.invariant c.loop-index-test.false in
    record { weighable = record { few = c.requires.rows.few; are_rows = c.requires.rows.are_rows; inside = c.requires.inside; in_range_lem = weights_yes _ _ _ (sym w) } }
