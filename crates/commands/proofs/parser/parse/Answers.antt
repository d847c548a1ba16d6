-- A line by its first word.
use Rattle.std.proofs.Common.{sym, ap, ◌∙◌, arith}
use Rattle.std.proofs.lemmas.Str.Pattern.{starts_char}
use Rattle.std.proofs.lemmas.Bool.Decides.{not_from_Decides}
use Rattle.words.specs.Words.{words_of}
use Rattle.commands.proofs.Parsing.{handed_on, line_none, line_comment, line_known, line_unknown}
use Rattle.commands.proofs.Said.{lines_read}
use Rattle.commands.proofs.parser.parse.Goals as goal

pub returns-in_default : goal.returns-in_default
returns-in_default c = record { value = sym (line_none _ (ap words_of (sym c.new-words.ensures) ∙ c.in_default.ensures.handed.0)); law = lines_read }

pub returns-then-starts_with : goal.returns-then-starts_with
returns-then-starts_with c =
    let mark = starts_char 35 c.in-Some.first.now _ c.starts_with.ensures.cases (omega arith) (omega arith) in
    record { value = sym (line_comment _ c.in-Some.first.now _ (ap words_of (sym c.new-words.ensures) ∙ c.in-Some.ensures.handed.0) (mark.0 c.if-starts_with.true)); law = lines_read }

pub returns : goal.returns
returns c =
    let mark = starts_char 35 c.in-Some.first.now _ c.starts_with.ensures.cases (omega arith) (omega arith) in
    record {
      value = c.command.ensures
          ∙ sym (line_known _ c.in-Some.first.now _ (ap words_of (sym c.new-words.ensures) ∙ c.in-Some.ensures.handed.0)
          (not_from_Decides _ mark c.if-starts_with.false) _ (sym c.parse.ensures.value ∙ c.in_ok-keyword.was));
      law = lines_read;
    }

pub returns-in_err-keyword : goal.returns-in_err-keyword
returns-in_err-keyword c =
    let mark = starts_char 35 c.in-Some.first.now _ c.starts_with.ensures.cases (omega arith) (omega arith) in
    record {
      value = handed_on _ _ c.from_residual.ensures.1
          ∙ sym (line_unknown _ c.in-Some.first.now _ (ap words_of (sym c.new-words.ensures) ∙ c.in-Some.ensures.handed.0)
          (not_from_Decides _ mark c.if-starts_with.false) _ (sym c.parse.ensures.value ∙ c.in_err-keyword.was));
      law = lines_read;
    }
