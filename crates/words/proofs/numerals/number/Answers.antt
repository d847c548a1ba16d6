-- What `parse` answers is the number of the word.
use Rattle.std.proofs.Common.{sym, rules}
use Rattle.words.proofs.Decimal.{number_none, parse_agrees, number_of_parse, decimals_read}
use Rattle.words.proofs.numerals.number.Goals as goal

pub returns-then-not-is_number : goal.returns-then-not-is_number
returns-then-not-is_number c = record { value = sym (number_none _ (sym c.if-not-is_number.ensures)); decimals = decimals_read }

pub returns-clause-value : goal.returns-clause-value
returns-clause-value c =
    number_of_parse _ _ _ _ (parse_agrees _ _ c.parse.ensures.value.0 (sym c.if-not-is_number.ensures)) c.map_err.ensures.cases (λ e y k. search rules)

pub returns-clause-decimals : goal.returns-clause-decimals
returns-clause-decimals c = decimals_read
