use Rattle.std.proofs.Common.{◌≡◌, Ok, sym, refl, ap, ◌∙◌}
use Rattle.std.proofs.lemmas.Result.{err_from_is_err_and}
use Rattle.methods.specs.declared.layer.FirstByte.{FirstByte}
use Rattle.methods.specs.Splits.{split_own, split_says}
use Rattle.methods.specs.Questions.{asked}
use Rattle.methods.proofs.SplitsExactly.{split_exactly}
use Rattle.methods.proofs.Asked.{opening_within}
use Rattle.methods.proofs.LayerAnswers.{layer_stops, layer_byte, layer_handed, layer_own}
use Rattle.methods.proofs.split.SplitProofMethod.question.Goals as goal

pub returns-in_err-opening : goal.returns-in_err-opening
returns-in_err-opening g c =
    let m = g.M.ProofMethod.meaning c.args.self.now.below in
    let p = err_from_is_err_and c.from_residual.result c.from_residual.ensures.1 in
    let a : c.from_residual.result ≡ asked (split_says m) c.args.claim.count c.args.sheet.now c.args.claim.goal.now c.args.claim.certificate.now =
    rw (p.1, p.2) (layer_stops split_own m c.args.claim.count c.args.sheet.now c.args.claim.goal.now c.args.claim.certificate.now _ c.in_err-opening.ensures) in
    record { answer = a; kept = refl; exactly = split_exactly m _ _ _ _ _ a }

pub returns-in_err-read : goal.returns-in_err-read
returns-in_err-read g c =
    let m = g.M.ProofMethod.meaning c.args.self.now.below in
    let p = err_from_is_err_and c.from_residual-in_err-read.result c.from_residual-in_err-read.ensures.1 in
    let a : c.from_residual-in_err-read.result ≡ asked (split_says m) c.args.claim.count c.args.sheet.now c.args.claim.goal.now c.args.claim.certificate.now =
    rw (p.1, p.2) (layer_byte split_own m c.args.claim.count c.args.sheet.now c.args.claim.goal.now c.args.claim.certificate.now c.in_ok-opening.ensures.0 _ c.in_err-read.ensures) in
    record { answer = a; kept = refl; exactly = split_exactly m _ _ _ _ _ a }

pub returns-in-HandDown : goal.returns-in-HandDown
returns-in-HandDown g c =
    let m = g.M.ProofMethod.meaning c.args.self.now.below in
    let a = layer_handed split_own m c.args.claim.count c.args.sheet.now c.args.claim.goal.now c.args.claim.certificate.now c.in_ok-opening.ensures.0 _ (ap (λ (b : FirstByte). Ok b) (sym c.in-HandDown.is) ∙ c.in_ok-read.ensures) c.ask_below.ensures.answer in
    record { answer = a; kept = c.ask_below.ensures.kept; exactly = split_exactly m _ _ _ _ _ a }

pub own-requires : goal.own-requires
own-requires g c = opening_within _ _ _ c.in_ok-opening.ensures.0

pub returns-in-Own : goal.returns-in-Own
returns-in-Own g c =
    let m = g.M.ProofMethod.meaning c.args.self.now.below in
    let a = layer_own split_own m c.args.claim.count c.args.sheet.now c.args.claim.goal.now c.args.claim.certificate.now c.in_ok-opening.ensures.0 _ (ap (λ (b : FirstByte). Ok b) (sym c.in-Own.is) ∙ c.in_ok-read.ensures) c.own.ensures.answer in
    record { answer = a; kept = c.own.ensures.kept; exactly = split_exactly m _ _ _ _ _ a }
