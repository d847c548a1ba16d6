use Rattle.std.proofs.Common.{◌≡◌, ◌<◌, List, [], ◌∷◌, ◌++◌, map, length, take, Some, None, Option, sym, ap, ◌∙◌, arith, length-append}
use Rattle.std.proofs.lemmas.List.{append_assoc, append-nil}
use Rattle.std.specs.Option.{option_map}
use Rattle.rows.specs.declared.numbers.Numbers.{Numbers}
use Rattle.rows.specs.Shapes.{opposite_of}
use Rattle.records.specs.declared.records.PlanEntry.{PlanEntry}
use Rattle.records.specs.Bounded.{listed, plain_list}
use Rattle.records.specs.Lists.{at}
use Rattle.records.specs.Records.{EntryData, row_of, entry_of, place_record_of}
use Rattle.records.proofs.Fronts.{took_held}
use Rattle.semantics.specs.Enumerated.{own_test, entry_facts}
use Rattle.semantics.specs.Obligations.{tests}
use Rattle.obligations.specs.Facts.{most_facts}
use Rattle.obligations.proofs.EntryTests.{opposites_most}
use Rattle.obligations.proofs.ShortLists.{plain_most, at_plain}
use Rattle.obligations.proofs.facts.condition_and_entry.Goals as goal
use Rattle.obligations.proofs.facts.condition_and_entry.Goals.{After-add_rows, After-add_opposites, After-get}

-- the condition stands there, then the opposites
conditions : (c : After-add_rows) → listed c.add_rows.new.facts ≡ plain_list row_of c.args.place.now.condition
conditions c = c.add_rows.ensures ∙ ap (λ (xs : List Numbers). xs ++ plain_list row_of c.args.place.now.condition) c.no_facts-facts.ensures

opposites : (c : After-add_opposites) → listed c.add_opposites.new.facts ≡ plain_list row_of c.args.place.now.condition ++ map opposite_of (take c.args.entry (tests (plain_list entry_of c.args.place.now.tested)))
opposites c =
    c.add_opposites.ensures
    ∙ ap (λ (xs : List Numbers). xs ++ map opposite_of (take c.args.entry (tests (plain_list entry_of c.args.place.now.tested)))) (conditions (goal.at.After-add_opposites c).After-add_rows)

-- the entry's own test, if it has one
own : (c : After-get) (o : Option PlanEntry) → o ≡ at c.args.entry (listed c.args.place.now.tested) →
    plain_list row_of c.args.place.now.condition ++ (map opposite_of (take c.args.entry (tests (plain_list entry_of c.args.place.now.tested))) ++ own_test (option_map entry_of o))
    ≡ plain_list row_of c.args.place.now.condition ++ entry_facts (place_record_of c.args.place.now) c.args.entry
own c o e =
    ap (λ (x : Option EntryData). plain_list row_of c.args.place.now.condition ++ (map opposite_of (take c.args.entry (tests (plain_list entry_of c.args.place.now.tested))) ++ own_test x))
    (at_plain entry_of c.args.entry (listed c.args.place.now.tested) o e)

pub returns-in-Some : goal.returns-in-Some
returns-in-Some c =
    let cs = plain_list row_of c.args.place.now.condition in
    let os = map opposite_of (take c.args.entry (tests (plain_list entry_of c.args.place.now.tested))) in
    let e = opposites (goal.at.returns-in-Some c).After-add_opposites in
    let l = length-append cs os in
    let m = plain_most row_of c.args.place.now.condition in
    let k = opposites_most c.args.place.now.tested c.args.entry in
    let s = ap length e in
    let room : length (listed c.add_opposites.new.facts) < most_facts = omega (arith, l, m, k, s) in
    took_held c.push.result _ most_facts (listed c.push.new.self) (listed c.add_opposites.new.facts ++ c.numbers.result.now ∷ []) (listed c.add_opposites.new.facts) c.push.ensures.took room c.push.ensures.listed
    ∙ ap (λ (x : Numbers). listed c.add_opposites.new.facts ++ x ∷ []) c.numbers.ensures
    ∙ ap (λ (xs : List Numbers). xs ++ c.in-Some.tested.test.numbers ∷ []) e
    ∙ append_assoc cs os (c.in-Some.tested.test.numbers ∷ [])
    ∙ own (goal.at.returns-in-Some c).After-get (Some c.in-Some.tested) c.in-Some.ensures

pub returns-in_default : goal.returns-in_default
returns-in_default c =
    let cs = plain_list row_of c.args.place.now.condition in
    let os = map opposite_of (take c.args.entry (tests (plain_list entry_of c.args.place.now.tested))) in
    opposites (goal.at.returns-in_default c).After-add_opposites
    ∙ ap (λ (xs : List Numbers). cs ++ xs) (sym (append-nil os))
    ∙ own (goal.at.returns-in_default c).After-get None c.in_default.ensures
