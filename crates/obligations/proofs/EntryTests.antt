-- The tests of a plan: how many there are, which has an index, and how many of their opposites are facts.
use Rattle.std.proofs.Common.{◌≡◌, ℕ, zero, suc, ◌<◌, ◌≤◌, List, [], ◌∷◌, map, length, get_or, take, ap, ◌∙◌, arith, length-take}
use Rattle.std.proofs.lemmas.List.{length-map}
use Rattle.rows.specs.Shapes.{opposite_of}
use Rattle.rows.specs.Zeros.{zero_numbers}
use Rattle.records.specs.declared.bounded.BoundedList.{BoundedList}
use Rattle.records.specs.declared.records.PlanEntry.{PlanEntry}
use Rattle.records.specs.Bounded.{listed, plain_list}
use Rattle.records.specs.Records.{EntryData, row_of, entry_of}
use Rattle.semantics.specs.Obligations.{tests}
use Rattle.obligations.proofs.ShortLists.{listed_most}

pub tests_length : (es : List PlanEntry) → length (tests (map entry_of es)) ≡ length es
tests_length es = length-map (map entry_of es) (λ (e : EntryData). e.test) ∙ length-map es entry_of

pub test_with : (es : List PlanEntry) (k : ℕ) (e : PlanEntry) → k < length es → e ≡ get_or es k e → row_of e.test ≡ get_or (tests (map entry_of es)) k zero_numbers
test_with [] k e l h = absurd (omega arith)
test_with (x ∷ es) zero e l h = ap (λ (y : PlanEntry). row_of y.test) h
test_with (x ∷ es) (suc k) e l h = test_with es k e (omega arith) h

pub opposites_most : {N : ℕ} (tested : BoundedList PlanEntry N) (n : ℕ) → length (map opposite_of (take n (tests (plain_list entry_of tested)))) ≤ N
opposites_most tested n =
    let xs = tests (plain_list entry_of tested) in
    let m = listed_most tested in
    let t = tests_length (listed tested) in
    let k = length-take n xs in
    let o = length-map (take n xs) opposite_of in
    omega (arith, m, t, k, o)
