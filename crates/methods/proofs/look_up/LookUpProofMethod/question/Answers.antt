use Rattle.std.proofs.Common.{◌≡◌, refl, ap, ◌∙◌}
use Rattle.std.proofs.lemmas.Result.{err_from_is_err_and}
use Rattle.rows.specs.declared.numbers.Numbers.{Numbers}
use Rattle.std.proofs.Common.{List}
use Rattle.methods.specs.Questions.{asked}
use Rattle.methods.specs.LooksUp.{search_says, look_up_says}
use Rattle.methods.proofs.StatedFaults.{look_up_faults}
use Rattle.methods.proofs.Asked.{opening_stops, opening_goes}
use Rattle.methods.proofs.Listed.{look_up_exactly}
use Rattle.methods.proofs.look_up.LookUpProofMethod.question.Goals as goal

pub returns-in_err-facts : goal.returns-in_err-facts
returns-in_err-facts c =
    let p = err_from_is_err_and c.from_residual.result c.from_residual.ensures.1 in
    let a : c.from_residual.result ≡ asked look_up_says c.args.claim.count c.args.sheet.now c.args.claim.goal.now c.args.claim.certificate.now =
    rw (p.1, p.2) (opening_stops c.args.claim.count c.args.sheet.now c.args.claim.goal.now c.args.claim.certificate.now (λ q. search_says q.facts q.goal q.certificate) _ c.in_err-facts.ensures) in
    record { answer = a; kept = refl; same = refl; stated = look_up_faults _ _ _ _ _ a; exactly = look_up_exactly _ _ _ _ _ a }

pub returns : goal.returns
returns c =
    let a = opening_goes c.args.claim.count c.args.sheet.now c.args.claim.goal.now c.args.claim.certificate.now (λ q. search_says q.facts q.goal q.certificate) _ c.in_ok-facts.ensures.0
    (c.search_test.ensures ∙ ap (λ (fs : List Numbers). search_says fs c.args.claim.goal.now c.args.claim.certificate.now) c.in_ok-facts.ensures.1) in
    record { answer = a; kept = refl; same = refl; stated = look_up_faults _ _ _ _ _ a; exactly = look_up_exactly _ _ _ _ _ a }
