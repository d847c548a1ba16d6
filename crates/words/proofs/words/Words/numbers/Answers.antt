-- Eight numbers, the ninth, and the end of the line.
use Rattle.std.proofs.Common.{Ok, sym, ap, ◌∙◌, w64, SFits, rules, arith}
use Rattle.std.proofs.lemmas.Int.{to_z-of_z}
use Rattle.words.specs.Arguments.{ended}
use Rattle.words.specs.Read.{left}
use Rattle.words.proofs.Reading.{handed_err, ended_ok, ended_err, numbers_more, numbers_stop, nine_err, nine_ok, shape_is}
use Rattle.words.proofs.Numbers.{numbers_read}
use Rattle.words.proofs.words.Words.numbers.Goals as goal

pub returns-in_err-coefficients : goal.returns-in_err-coefficients
returns-in_err-coefficients c = record {
  value = handed_err _ _ c.from_residual.ensures.1 ∙ sym (nine_err _ _ c.in_err-coefficients.ensures.err);
  law = numbers_read;
}

pub returns-in_err-bound : goal.returns-in_err-bound
returns-in_err-bound c =
    let ws = left c.coefficients.new.self in
    record {
      value = handed_err _ _ c.from_residual-in_err-bound.ensures.1
          ∙ sym (nine_err _ _ (sym c.in_ok-coefficients.ensures.ok
          ∙ numbers_stop c.in_ok-coefficients.coefficients 1 0 ws (omega arith) _ (sym c.number.ensures.value ∙ c.in_err-bound.was)));
      law = numbers_read;
    }

pub returns-in_err-end : goal.returns-in_err-end
returns-in_err-end c =
    let ws = left c.coefficients.new.self in
    record {
      value = handed_err _ _ c.from_residual-in_err-end.ensures.1
          ∙ sym (nine_err _ _ (sym c.in_ok-coefficients.ensures.ok
          ∙ numbers_more c.in_ok-coefficients.coefficients 1 0 ws (omega arith) c.in_ok-bound.bound (sym c.number.ensures.value ∙ c.in_ok-bound.was)
          ∙ ended_err (tt {0}) _ _ _ (ap (ended (tt {0})) (sym c.number.ensures.after) ∙ sym c.end.ensures ∙ c.in_err-end.was)));
      law = numbers_read;
    }

pub returns : goal.returns
returns c =
    let ws = left c.coefficients.new.self in
    let fits : SFits w64 c.in_ok-bound.bound = search rules in
    record {
      value = ap Ok (shape_is c.in_ok-coefficients.coefficients c.in_ok-bound.bound _ c.in_ok-coefficients.ensures.long (to_z-of_z w64 _ fits))
          ∙ sym (nine_ok _ _ (sym c.in_ok-coefficients.ensures.ok
          ∙ numbers_more c.in_ok-coefficients.coefficients 1 0 ws (omega arith) c.in_ok-bound.bound (sym c.number.ensures.value ∙ c.in_ok-bound.was)
          ∙ ended_ok (tt {0}) _ _ (ap (ended (tt {0})) (sym c.number.ensures.after) ∙ sym c.end.ensures ∙ c.in_ok-end.was)));
      law = numbers_read;
    }
