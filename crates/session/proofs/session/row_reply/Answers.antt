-- What is left of a row is whether the numbers are one.
use Rattle.std.proofs.Common.{◌≡◌, IsOkAnd, MatchResult, Ok, Err, Result, ap, ◌∙◌}
use Rattle.rows.specs.declared.fault.Fault.{Fault}
use Rattle.rows.specs.declared.numbers.Numbers.{Numbers}
use Rattle.rows.specs.declared.row.Row.{Row}
use Rattle.rows.specs.Faults.{Said}
use Rattle.rows.specs.Made.{RowFrom}
use Rattle.replies.specs.declared.reply.Reply.TheVariants.{Done}
use Rattle.replies.specs.Texts.{unless_refused}
use Rattle.methods.specs.Openings.{row_says}
use Rattle.methods.proofs.RowTests.{row_from_ok, row_from_err}
use Rattle.session.proofs.session.row_reply.Goals as goal

said_of_row : (numbers : Numbers) (r : Result Row Fault) (s : Said) (P : Row → Unit {0} → Type 0) → RowFrom numbers r → MatchResult r (λ x. IsOkAnd s (P x)) (λ e. s ≡ Err e) → s ≡ row_says numbers
said_of_row numbers (Ok row) (Ok u) P h m = row_from_ok numbers row h
said_of_row numbers (Ok row) (Err f) P h m = absurd m
said_of_row numbers (Err f) s P h m = m ∙ row_from_err numbers f h

pub returns : goal.returns
returns c = c.unless_refused.ensures ∙ ap (unless_refused Done) (said_of_row _ _ _ _ c.new.ensures c.map.ensures.cases)
