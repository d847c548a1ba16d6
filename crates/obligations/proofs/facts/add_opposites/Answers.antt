use Rattle.std.proofs.Common.{◌≡◌, ℕ, ◌<◌, min, List, ◌++◌, map, length, take, sym, ap, ◌∙◌, arith, length-take}
use Rattle.std.proofs.lemmas.Iterator.{YieldsList-from_slice, YieldsList-from_take}
use Rattle.std.proofs.lemmas.Iterator.Consumers.{YieldsList-turn, YieldsList-end}
use Rattle.std.proofs.lemmas.List.{length-map, length_push, get_or-map, get_or-take, take-map}
use Rattle.rows.specs.declared.numbers.Numbers.{Numbers}
use Rattle.rows.specs.Shapes.{opposite_of}
use Rattle.rows.specs.Zeros.{zero_numbers}
use Rattle.records.specs.Bounded.{listed, plain_list}
use Rattle.records.specs.Records.{entry_of}
use Rattle.semantics.specs.Obligations.{tests}
use Rattle.obligations.specs.Facts.{most_facts}
use Rattle.obligations.proofs.EntryTests.{tests_length, test_with}
use Rattle.obligations.proofs.ShortLists.{listed_most, appended_more, take_min}
use Rattle.obligations.proofs.facts.add_opposites.Goals as goal

pub loop-entry-preserved : goal.loop-entry-preserved
loop-entry-preserved c =
    let es = listed c.args.tested.now in
    let xs = tests (plain_list entry_of c.args.tested.now) in
    let k = length c.loop-entry.yielded in
    let t = YieldsList-turn (YieldsList-from_take c.args.count (YieldsList-from_slice es cc) cc) c.loop-entry.yielded _ c.loop-entry.yielded_by _ _ c.in-Some.entry c.in-Some.is c.next.ensures.steps in
    let l : k < min c.args.count (length es) = omega (arith, t.0, length-take c.args.count es) in
    let e = t.1 ∙ get_or-take c.args.count es k c.in-Some.entry.now (omega (arith, l)) in
    let n = tests_length es in
    let m = listed_most c.args.tested.now in
    let o = length-map xs opposite_of in
    let a = appended_more (listed c.args.facts.now) (listed c.loop-entry.facts) (map opposite_of xs) k c.loop-entry.invariant zero_numbers c.numbers.result.now (listed c.push.new.self) c.push.result most_facts
    (omega (arith, n, o, l))
    (c.numbers.ensures ∙ c.opposite-opposite.ensures.value ∙ ap opposite_of (test_with es k c.in-Some.entry.now (omega (arith, l)) e) ∙ sym (get_or-map opposite_of xs k zero_numbers zero_numbers (omega (arith, n, l))))
    (omega (arith, m, n, o, c.requires)) c.push.ensures.took c.push.ensures.listed in
    a ∙ ap (λ (j : ℕ). listed c.args.facts.now ++ take j (map opposite_of xs)) (sym (length_push c.loop-entry.yielded c.in-Some.entry))

pub returns : goal.returns
returns c =
    let es = listed c.args.tested.now in
    let xs = tests (plain_list entry_of c.args.tested.now) in
    let k = length c.loop-entry.yielded in
    let t = YieldsList-end (YieldsList-from_take c.args.count (YieldsList-from_slice es cc) cc) c.loop-entry.yielded _ c.loop-entry.yielded_by _ _ c.in-None.is c.next.ensures.steps in
    let n = tests_length es in
    let e : k ≡ min c.args.count (length xs) = omega (arith, t.1, length-take c.args.count es, n) in
    c.loop-entry.invariant ∙ ap (λ (ys : List Numbers). listed c.args.facts.now ++ ys) (take-map opposite_of k xs ∙ ap (map opposite_of) (take_min xs c.args.count k e))
