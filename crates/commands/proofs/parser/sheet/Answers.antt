-- `sheet`, argument by argument.
use Rattle.std.proofs.Common.{Ok, sym, ap, ◌∙◌, w64, SFits, rules}
use Rattle.std.proofs.lemmas.Int.{to_z-of_z}
use Rattle.words.specs.Arguments.{ended, and_then}
use Rattle.commands.specs.Lines.{set_sheet, sheet_rows}
use Rattle.commands.proofs.Parsing.{handed_on, sheet_number, sheet_more, sheet_end}
use Rattle.commands.proofs.parser.sheet.Goals as goal

pub returns-in_err-rows : goal.returns-in_err-rows
returns-in_err-rows c =
    handed_on _ _ c.from_residual.ensures.1 ∙ sym (sheet_number _ _ (sym c.number.ensures.value ∙ c.in_err-rows.was))

pub returns-in_err-end : goal.returns-in_err-end
returns-in_err-end c =
    handed_on _ _ c.from_residual-in_err-end.ensures.1
    ∙ sym (sheet_more _ (tt {0}) c.in_ok-rows.rows _ (sym c.number.ensures.value ∙ c.in_ok-rows.was)
    (ap (ended (tt {0})) (sym c.number.ensures.after) ∙ sym c.end.ensures ∙ c.in_err-end.was))

pub returns-in_err-sheet_rows : goal.returns-in_err-sheet_rows
returns-in_err-sheet_rows c =
    let fits : SFits w64 c.in_ok-rows.rows = search rules in
    handed_on _ _ c.from_residual-in_err-sheet_rows.ensures.1
    ∙ sym (sheet_end _ (tt {0}) c.in_ok-rows.rows (sym c.number.ensures.value ∙ c.in_ok-rows.was)
    (ap (ended (tt {0})) (sym c.number.ensures.after) ∙ sym c.end.ensures ∙ c.in_ok-end.was)
    ∙ ap (λ z. and_then (sheet_rows z) (λ n. Ok (set_sheet n))) (sym (to_z-of_z w64 _ fits))
    ∙ ap (λ r. and_then r (λ n. Ok (set_sheet n))) (sym c.in_err-sheet_rows.ensures))

pub returns : goal.returns
returns c =
    let fits : SFits w64 c.in_ok-rows.rows = search rules in
    sym (sheet_end _ (tt {0}) c.in_ok-rows.rows (sym c.number.ensures.value ∙ c.in_ok-rows.was)
    (ap (ended (tt {0})) (sym c.number.ensures.after) ∙ sym c.end.ensures ∙ c.in_ok-end.was)
    ∙ ap (λ z. and_then (sheet_rows z) (λ n. Ok (set_sheet n))) (sym (to_z-of_z w64 _ fits))
    ∙ ap (λ r. and_then r (λ n. Ok (set_sheet n))) (sym c.in_ok-sheet_rows.ensures))
