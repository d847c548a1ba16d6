use Rattle.std.proofs.Common.{◌<◌, ◌≤◌, List, ◌++◌, length, get_or, ap, sym, ◌∙◌, subst, arith}
use Rattle.std.proofs.lemmas.List.{length-map, get_or-map, take_all}
use Rattle.rows.specs.declared.numbers.Numbers.{Numbers}
use Rattle.rows.specs.declared.written.WrittenRow.{WrittenRow}
use Rattle.rows.specs.Zeros.{zero_numbers}
use Rattle.records.specs.Bounded.{listed, plain_list}
use Rattle.records.specs.Records.{row_of}
use Rattle.obligations.specs.Facts.{most_facts}
use Rattle.obligations.proofs.ShortLists.{plain_most, appended_more}
use Rattle.obligations.proofs.facts.add_rows.Goals as goal

pub loop-row-preserved : goal.loop-row-preserved
loop-row-preserved g c =
    let ws = listed c.args.rows.now in
    let rows = plain_list row_of c.args.rows.now in
    let l = subst (λ (xs : List WrittenRow). c.loop-row.row-index < length xs) c.as_slice-row-items.ensures c.loop-row-test.true in
    let n = length-map ws row_of in
    let m = plain_most row_of c.args.rows.now in
    appended_more (listed c.args.facts.now) (listed c.loop-row.facts) rows c.loop-row.row-index c.loop-row.invariant zero_numbers c.numbers.result.now (listed c.push.new.self) c.push.result most_facts
    (omega (arith, n, l))
    (c.numbers.ensures ∙ ap row_of (c.row-item.is ∙ ap (λ (xs : List WrittenRow). get_or xs c.loop-row.row-index c.row-item.result) c.as_slice-row-items.ensures) ∙ sym (get_or-map row_of ws c.loop-row.row-index c.row-item.result zero_numbers l))
    (omega (arith, m, c.requires)) c.push.ensures.took c.push.ensures.listed

pub returns : goal.returns
returns g c =
    let rows = plain_list row_of c.args.rows.now in
    let l = subst (λ (xs : List WrittenRow). length xs ≤ c.loop-row.row-index) c.as_slice-row-items.ensures c.loop-row-test.false in
    let n = length-map (listed c.args.rows.now) row_of in
    c.loop-row.invariant ∙ ap (λ (xs : List Numbers). listed c.args.facts.now ++ xs) (take_all c.loop-row.row-index rows (omega (arith, n, l)))
