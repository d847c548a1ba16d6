use Rattle.std.proofs.Common.{sym}
use Rattle.std.proofs.lemmas.Result.{err_from_is_err_and}
use Rattle.methods.proofs.RowTests.{rows_fault, rows_more, rows_all}
use Rattle.methods.proofs.opening.rows_test.Goals as goal

pub returns-in_err-row_test : goal.returns-in_err-row_test
returns-in_err-row_test c =
    let p = err_from_is_err_and c.from_residual.result c.from_residual.ensures.1 in
    rw (p.1, p.2) (rows_fault _ _ c.loop-fact.invariant _ _ c.loop-fact-test.true (sym c.in_err-row_test.ensures))

pub loop-fact-preserved : goal.loop-fact-preserved
loop-fact-preserved c = rows_more _ _ c.loop-fact.invariant _ c.loop-fact-test.true (sym c.in_ok-row_test.ensures)

pub returns : goal.returns
returns c = rows_all _ _ c.loop-fact.invariant c.loop-fact-test.false
