-- The first facts, filled up with zeros, are the sheet place by place.
use Rattle.std.proofs.Common.{◌≡◌, ℕ, ◌<◌, ◌≤◌, List, length, take, get_or, sym, refl, ap, ◌∙◌, ⊎_elim, arith, rules}
use Rattle.std.proofs.lemmas.Bool.{cases_lt}
use Rattle.std.proofs.lemmas.List.{ext_get_or, get_or_past, get_or-take}
use Rattle.rows.specs.declared.numbers.Numbers.{Numbers}
use Rattle.methods.specs.CutLaws.{tabulate_length, tabulate-get_or}
use Rattle.session.specs.Sessions.{sheet_of, zeros}
use Rattle.session.proofs.session.Session.sheet.Goals as goal

-- a list that holds the first facts and zeros behind them, as many together as there are rows
module _ (facts made : List Numbers) (count rows : ℕ) (reaches : (k : ℕ) → count ≤ k → k < rows → length facts ≤ k) (long : length made ≡ rows) where
  module _ (front : (k : ℕ) (d : Numbers) → k < rows → k < count → get_or made k d ≡ get_or facts k d) (behind : (k : ℕ) (d : Numbers) → count ≤ k → k < rows → get_or made k d ≡ zeros) where
    held : (k : ℕ) → k < rows → get_or made k zeros ≡ get_or facts k zeros
    held k small =
        ⊎_elim (λ l. front k zeros small l) (λ l. behind k zeros l small ∙ sym (get_or_past facts k zeros (reaches k l small)))
        (cases_lt k count)

    at : (k : ℕ) → k < length made → get_or made k zeros ≡ get_or (sheet_of facts rows) k zeros
    at k l =
        let small : k < rows = omega (arith, long) in
        held k small ∙ sym (tabulate-get_or (λ i. get_or facts i zeros) rows k zeros small)

    sheet_is : made ≡ sheet_of facts rows
    sheet_is = ext_get_or zeros made (sheet_of facts rows) (long ∙ sym (tabulate_length (λ i. get_or facts i zeros) rows)) at

pub returns : goal.returns
returns c =
    let copied = c.in_ok-sheet.ensures in
    let filled = c.in_ok-resize.ensures in
    let facts = c.args.self.now.facts.items in
    let same : c.in_ok-sheet.sheet.items ≡ take c.min-held.result facts = copied.items ∙ ap (take c.min-held.result) c.deref.ensures.value in
    let least = c.min-held.ensures in
    let all = c.len.ensures in
    let many : c.in_ok-sheet.sheet.len ≡ c.min-held.result = search rules in
    sheet_is facts _ c.in_ok-sheet.sheet.len _ (λ k l m. omega (arith, many, least, all)) (sym c.resize.new.self.ok.0 ∙ filled.len)
    (λ k d l m. filled.by_index.0 k d l m ∙ ap (λ s. get_or s k d) same ∙ get_or-take c.min-held.result facts k d (omega (arith, many)))
    (λ k d l m. filled.by_index.1 k d refl l m)
