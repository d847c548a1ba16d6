use Rattle.std.proofs.lemmas.Result.{err_from_is_err_and}
use Rattle.methods.proofs.Asked.{opening_passed, opening_within}
use Rattle.methods.proofs.CutAnswers.{own_no_room}
use Rattle.methods.proofs.cut.Cut.own.Goals as goal

pub returns-in_err-room_test-clause-answer : goal.returns-in_err-room_test-clause-answer
returns-in_err-room_test-clause-answer g c =
    let p = err_from_is_err_and c.from_residual.result c.from_residual.ensures.1 in
    rw (p.1, p.2) (own_no_room (g.M.ProofMethod.meaning c.args.self.now.below) c.args.claim.count c.args.sheet.now c.args.claim.goal.now c.args.claim.certificate.now (opening_within _ _ _ c.requires) _ c.in_err-room_test.ensures)

pub cut_row-requires : goal.cut_row-requires
cut_row-requires g c =
    let o = (opening_passed c.args.claim.count c.args.sheet.now c.args.claim.goal.now c.requires).1 in
    record { few = o.few; are_rows = o.are_rows }
