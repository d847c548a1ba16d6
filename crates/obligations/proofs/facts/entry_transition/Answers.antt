use Rattle.std.proofs.Common.{◌≡◌, ℕ, Bool, true, false, cond, eqb, length, Some, None, Option, refl, sym, ap, ◌∙◌, rules}
use Rattle.std.proofs.lemmas.List.{length-map}
use Rattle.std.specs.Bool.{then_some}
use Rattle.std.specs.Option.{option_map, option_or}
use Rattle.records.specs.declared.records.Place.{Place}
use Rattle.records.specs.declared.records.PlanEntry.{PlanEntry}
use Rattle.records.specs.Bounded.{listed}
use Rattle.records.specs.Records.{entry_of, place_record_of}
use Rattle.semantics.specs.Enumerated.{after_tests}
use Rattle.obligations.proofs.ShortLists.{at_plain}
use Rattle.obligations.proofs.facts.entry_transition.Goals as goal

-- the entry with a test that is found, else the last
found_or_last : (place : Place) (e n : ℕ) (o : Option PlanEntry) → n ≡ length (listed place.tested) → option_or (option_map (λ (x : PlanEntry). x.transition) o) (then_some (eqb e n) place.last) ≡ after_tests (place_record_of place) e (option_map entry_of o)
found_or_last place e n (Some x) h = refl
found_or_last place e n None h = by_test (eqb e n) ∙ ap (λ (k : ℕ). cond (eqb e k) (Some place.last) None) (h ∙ sym (length-map (listed place.tested) entry_of))
  where
    by_test : (b : Bool) → option_or None (then_some b place.last) ≡ cond b (Some place.last) None
    by_test true = refl
    by_test false = refl

pub returns : goal.returns
returns c =
    let m : c.map.result ≡ option_map (λ (x : PlanEntry). x.transition) c.get.result = search rules in
    c.or.ensures
    ∙ ap (λ (o : Option ℕ). option_or o c.then_some-last.result) m
    ∙ ap (option_or (option_map (λ (x : PlanEntry). x.transition) c.get.result)) c.then_some-last.ensures
    ∙ found_or_last c.args.place.now c.args.entry c.len.result c.get.result c.len.ensures.value
    ∙ ap (after_tests (place_record_of c.args.place.now) c.args.entry) (at_plain entry_of c.args.entry (listed c.args.place.now.tested) c.get.result c.get.ensures)
