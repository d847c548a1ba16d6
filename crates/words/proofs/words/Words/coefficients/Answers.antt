-- One number more, or the first word that is none.
use Rattle.std.proofs.Common.{arith, sym, ◌∙◌, rules, w64, SFits}
use Rattle.std.proofs.lemmas.Int.{to_z-of_z}
use Rattle.words.specs.Read.{left}
use Rattle.words.proofs.Reading.{reading_more, reading_stops}
use Rattle.words.proofs.words.Words.coefficients.Goals as goal

pub returns-in_err-coefficient : goal.returns-in_err-coefficient
returns-in_err-coefficient c =
    reading_stops _ _ _ _ _ _ _ (omega (arith, c.loop-coefficient-test.true, c.loop-coefficient.invariant.long)) (sym c.number.ensures.value ∙ c.in_err-coefficient.was)
    c.loop-coefficient.invariant c.from_residual.ensures.1

pub loop-coefficient-preserved : goal.loop-coefficient-preserved
loop-coefficient-preserved c =
    let fits : SFits w64 c.in_ok-coefficient.field-0 = search rules in
    reading_more _ _ _ _ _ (left c.loop-coefficient.self) _ (omega (arith, c.loop-coefficient-test.true, c.loop-coefficient.invariant.long)) (to_z-of_z w64 _ fits)
    (sym c.number.ensures.value ∙ c.in_ok-coefficient.was) c.number.ensures.after c.loop-coefficient.invariant
