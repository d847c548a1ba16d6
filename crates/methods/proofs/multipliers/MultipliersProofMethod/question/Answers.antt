use Rattle.std.proofs.Common.{◌≡◌, sym, refl, ap, ◌∙◌, subst}
use Rattle.std.proofs.lemmas.Result.{err_from_is_err_and}
use Rattle.rows.specs.declared.numbers.Numbers.{Numbers}
use Rattle.std.proofs.Common.{List}
use Rattle.methods.specs.Openings.{Opened}
use Rattle.methods.specs.Questions.{asked}
use Rattle.methods.specs.Sums.{sums_say, multipliers_say}
use Rattle.methods.proofs.StatedFaults.{multipliers_faults}
use Rattle.methods.proofs.Asked.{opening_stops, opening_goes, opening_passed}
use Rattle.methods.proofs.SumsExactly.{multipliers_exactly}
use Rattle.methods.proofs.multipliers.MultipliersProofMethod.question.Goals as goal

pub returns-in_err-facts : goal.returns-in_err-facts
returns-in_err-facts c =
    let p = err_from_is_err_and c.from_residual.result c.from_residual.ensures.1 in
    let a : c.from_residual.result ≡ asked multipliers_say c.args.claim.count c.args.sheet.now c.args.claim.goal.now c.args.claim.certificate.now =
    rw (p.1, p.2) (opening_stops c.args.claim.count c.args.sheet.now c.args.claim.goal.now c.args.claim.certificate.now (λ q. sums_say q.facts q.goal q.certificate) _ c.in_err-facts.ensures) in
    record { answer = a; kept = refl; same = refl; stated = multipliers_faults _ _ _ _ _ a; exactly = multipliers_exactly _ _ _ _ _ a }

pub sums_test-requires : goal.sums_test-requires
sums_test-requires c = subst (λ (fs : List Numbers). Opened fs c.args.claim.goal.now) (sym c.in_ok-facts.ensures.1) (opening_passed _ _ _ c.in_ok-facts.ensures.0).1

pub returns : goal.returns
returns c =
    let a = opening_goes c.args.claim.count c.args.sheet.now c.args.claim.goal.now c.args.claim.certificate.now (λ q. sums_say q.facts q.goal q.certificate) _ c.in_ok-facts.ensures.0
    (c.sums_test.ensures ∙ ap (λ (fs : List Numbers). sums_say fs c.args.claim.goal.now c.args.claim.certificate.now) c.in_ok-facts.ensures.1) in
    record { answer = a; kept = refl; same = refl; stated = multipliers_faults _ _ _ _ _ a; exactly = multipliers_exactly _ _ _ _ _ a }
