-- `ask`, argument by argument.
use Rattle.std.proofs.Common.{◌≡◌, sym, ap, ◌∙◌}
use Rattle.words.specs.Arguments.{first_hex, rest_of, ended}
use Rattle.words.specs.Read.{left, word_in}
use Rattle.words.proofs.Reading.{ended_ok, ended_err}
use Rattle.commands.proofs.Parsing.{handed_on, ask_method_lem, ask_hex, ask_end}
use Rattle.commands.proofs.parser.ask.Goals as goal

pub returns-in_err-stack : goal.returns-in_err-stack
returns-in_err-stack c =
    handed_on _ _ c.from_residual.ensures.1 ∙ sym (ask_method_lem _ _ (sym c.method.ensures.value ∙ c.in_err-stack.was))

pub returns-in_err-certificate : goal.returns-in_err-certificate
returns-in_err-certificate c =
    handed_on _ _ c.from_residual-in_err-certificate.ensures.1
    ∙ sym (ask_hex (left c.args.words) c.in_ok-stack.stack _
    (sym c.method.ensures.value ∙ c.in_ok-stack.was)
    (ap first_hex (sym c.method.ensures.after) ∙ sym c.hex.ensures.value ∙ ap word_in c.in_err-certificate.was))

pub returns-in_err-end : goal.returns-in_err-end
returns-in_err-end c =
    let ws = left c.args.words in
    let rest : left c.hex.new.self ≡ rest_of (rest_of ws) = c.hex.ensures.after ∙ ap rest_of c.method.ensures.after in
    handed_on _ _ c.from_residual-in_err-end.ensures.1
    ∙ sym (ask_end ws c.in_ok-stack.stack c.in_ok-certificate.certificate.word.now
    (sym c.method.ensures.value ∙ c.in_ok-stack.was)
    (ap first_hex (sym c.method.ensures.after) ∙ sym c.hex.ensures.value ∙ ap word_in c.in_ok-certificate.was)
    ∙ ended_err (tt {0}) _ _ _ (ap (ended (tt {0})) (sym rest) ∙ sym c.end.ensures ∙ c.in_err-end.was))

pub returns : goal.returns
returns c =
    let ws = left c.args.words in
    let rest : left c.hex.new.self ≡ rest_of (rest_of ws) = c.hex.ensures.after ∙ ap rest_of c.method.ensures.after in
    sym (ask_end ws c.in_ok-stack.stack c.in_ok-certificate.certificate.word.now
    (sym c.method.ensures.value ∙ c.in_ok-stack.was)
    (ap first_hex (sym c.method.ensures.after) ∙ sym c.hex.ensures.value ∙ ap word_in c.in_ok-certificate.was)
    ∙ ended_ok (tt {0}) _ _ (ap (ended (tt {0})) (sym rest) ∙ sym c.end.ensures ∙ c.in_ok-end.was))
