use Rattle.std.proofs.Common.{sym, arith}
use Rattle.std.proofs.lemmas.Result.{err_from_is_err_and}
use Rattle.methods.specs.SplitLaws.{split_passed}
use Rattle.methods.proofs.SplitAnswers.{own_no_room}
use Rattle.methods.proofs.split.Split.own.Goals as goal

pub returns-in_err-room_test-clause-answer : goal.returns-in_err-room_test-clause-answer
returns-in_err-room_test-clause-answer g c =
    let p = err_from_is_err_and c.from_residual.result c.from_residual.ensures.1 in
    rw (p.1, p.2) (own_no_room (g.M.ProofMethod.meaning c.args.self.now.below) c.args.claim.count c.args.sheet.now c.args.claim.goal.now c.args.claim.certificate.now c.requires _ c.in_err-room_test.ensures)

pub ask_both-requires-clause-parts : goal.ask_both-requires-clause-parts
ask_both-requires-clause-parts g c =
    let long = (split_passed c.args.claim.certificate.now (sym c.in_ok-row.ensures.0)).long in
    omega (arith, long, c.from-second.ensures, c.word_at.ensures)
