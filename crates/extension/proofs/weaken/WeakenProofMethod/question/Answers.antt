use Rattle.std.proofs.Common.{◌≡◌, Ok, sym, refl, ap, ◌∙◌}
use Rattle.std.proofs.lemmas.Result.{err_from_is_err_and}
use Rattle.methods.specs.declared.layer.FirstByte.{FirstByte}
use Rattle.methods.specs.Questions.{asked}
use Rattle.methods.proofs.RowTests.{row_from_ok, row_from_err}
use Rattle.extension.specs.Weakens.{weaken_says}
use Rattle.extension.proofs.WeakenAnswers.{weaken_no_row, weaken_byte, weaken_handed, weaken_own_lem, weaken_exactly}
use Rattle.extension.proofs.weaken.WeakenProofMethod.question.Goals as goal

pub returns-in_err-goal : goal.returns-in_err-goal
returns-in_err-goal g c =
    let m = g.M.ProofMethod.meaning c.args.self.now.below in
    let p = err_from_is_err_and c.from_residual-in_err-goal.result c.from_residual-in_err-goal.ensures.1 in
    let a : c.from_residual-in_err-goal.result ≡ asked (weaken_says m) c.args.claim.count c.args.sheet.now c.args.claim.goal.now c.args.claim.certificate.now =
    rw (p.1, p.2) (weaken_no_row m c.args.claim.count c.args.sheet.now c.args.claim.goal.now c.args.claim.certificate.now c.in_ok-facts.ensures.0 _ (row_from_err _ _ c.in_err-goal.ensures)) in
    record { answer = a; kept = refl; exactly = weaken_exactly m _ _ _ _ _ a }

pub returns-in_err-read : goal.returns-in_err-read
returns-in_err-read g c =
    let m = g.M.ProofMethod.meaning c.args.self.now.below in
    let p = err_from_is_err_and c.from_residual-in_err-read.result c.from_residual-in_err-read.ensures.1 in
    let a : c.from_residual-in_err-read.result ≡ asked (weaken_says m) c.args.claim.count c.args.sheet.now c.args.claim.goal.now c.args.claim.certificate.now =
    rw (p.1, p.2) (weaken_byte m c.args.claim.count c.args.sheet.now c.args.claim.goal.now c.args.claim.certificate.now c.in_ok-facts.ensures.0 _ (row_from_ok c.args.claim.goal.now c.in_ok-goal.goal c.in_ok-goal.ensures) c.in_err-read.ensures) in
    record { answer = a; kept = refl; exactly = weaken_exactly m _ _ _ _ _ a }

pub returns-in-HandDown : goal.returns-in-HandDown
returns-in-HandDown g c =
    let m = g.M.ProofMethod.meaning c.args.self.now.below in
    let a = weaken_handed m c.args.claim.count c.args.sheet.now c.args.claim.goal.now c.args.claim.certificate.now c.in_ok-facts.ensures.0 _ (row_from_ok c.args.claim.goal.now c.in_ok-goal.goal c.in_ok-goal.ensures) (ap (λ (b : FirstByte). Ok b) (sym c.in-HandDown.is) ∙ c.in_ok-read.ensures) c.ask_below.ensures.answer in
    record { answer = a; kept = c.ask_below.ensures.kept; exactly = weaken_exactly m _ _ _ _ _ a }

pub returns-in-Own : goal.returns-in-Own
returns-in-Own g c =
    let m = g.M.ProofMethod.meaning c.args.self.now.below in
    let a = weaken_own_lem m c.args.claim.count c.args.sheet.now c.args.claim.goal.now c.args.claim.certificate.now c.in_ok-facts.ensures.0 _ c.in_ok-goal.goal.numbers (row_from_ok c.args.claim.goal.now c.in_ok-goal.goal c.in_ok-goal.ensures) (ap (λ (b : FirstByte). Ok b) (sym c.in-Own.is) ∙ c.in_ok-read.ensures) c.in_ok-goal.ensures.0 c.own.ensures.answer in
    record { answer = a; kept = c.own.ensures.kept; exactly = weaken_exactly m _ _ _ _ _ a }
