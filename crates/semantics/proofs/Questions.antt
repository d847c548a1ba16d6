-- The questions that are computed are those that the relation poses.
use Rattle.std.proofs.Common.{◌≡◌, ℕ, Bool, true, false, cond, eqb, List, [], ◌++◌, map, length, take, is_some, Some, None, Option, sym, refl, ap, ◌∙◌, ap₂, arith}
use lib.ListN.{length-map}
use Rattle.std.proofs.lemmas.List.{take_all, append-nil}
use Rattle.std.proofs.lemmas.Bool.{eq-eqb, eqb-true, cond-true}
use Rattle.rows.specs.declared.numbers.Numbers.{Numbers}
use Rattle.rows.specs.Shapes.{opposite_of}
use Rattle.records.specs.Lists.{at}
use Rattle.records.proofs.Fronts.{at_past}
use Rattle.records.specs.Records.{TableData, EntryData, PlaceData, InnerData, WitnessData}
use Rattle.semantics.specs.declared.obligation.Obligation.{Obligation}
use Rattle.semantics.specs.declared.obligation.Obligation.TheVariants.{Consecution, Restriction, Guard, Exit}
use Rattle.semantics.specs.Enumerated.{Posed, posed, given, unless, consecution_of, restriction_of, guard_of, exit_of, question_of, after_tests, entry_transition, own_test, entry_facts}
use Rattle.semantics.specs.Goals.{impossible}
use Rattle.semantics.specs.Laws.{Fitting}
use Rattle.semantics.specs.Obligations.{Consecutive, Restricted, Guarded, Closed, Entry, tested, final, tests, Poses}
use Rattle.semantics.specs.Plans.{transition_with, inner_with, place_with}
use Rattle.semantics.proofs.Lookups.{known_found, declared_found, listed_found, found_known, found_declared, found_listed, not_found}
use Rattle.semantics.proofs.Members.{none_some, same_some}

-- something that is given has its part
pub given_parts : {A B : Type 0} (o : Option A) (next : A → Option B) (y : B) → given o next ≡ Some y → (x : A) × (o ≡ Some x) × (next x ≡ Some y)
given_parts None next y e = none_some y e
given_parts (Some x) next y e = (x, refl, e)

pub given_is : {A B : Type 0} (o : Option A) (next : A → Option B) (x : A) → o ≡ Some x → given o next ≡ next x
given_is o next x e = ap (λ p. given p next) e

-- what is asked has the facts and the goal
facts_asked : (a b : List Numbers) (g h : Numbers) → Some (posed a g) ≡ Some (posed b h) → b ≡ a
facts_asked a b g h e = sym (ap (λ (p : Posed). p.facts) (same_some (posed a g) (posed b h) e))

goal_asked : (a b : List Numbers) (g h : Numbers) → Some (posed a g) ≡ Some (posed b h) → h ≡ g
goal_asked a b g h e = sym (ap (λ (p : Posed). p.goal) (same_some (posed a g) (posed b h) e))

same_posed : {a b : List Numbers} {g h : Numbers} → b ≡ a → h ≡ g → Some (posed a g) ≡ Some (posed b h)
same_posed e f = sym (ap₂ (λ (facts : List Numbers) (goal : Numbers). Some (posed facts goal)) e f)

-- an entry of a plan, computed
own_facts : (p : PlaceData) (e : ℕ) (o : Option EntryData) → at e p.tested ≡ o → entry_facts p e ≡ map opposite_of (take e (tests p.tested)) ++ own_test o
own_facts p e o h = ap (λ (x : Option EntryData). map opposite_of (take e (tests p.tested)) ++ own_test x) h

-- behind the last test, all tests count
last_facts : (p : PlaceData) (e : ℕ) → e ≡ length p.tested → map opposite_of (take e (tests p.tested)) ++ [] ≡ map opposite_of (tests p.tested)
last_facts p e h =
    append-nil (map opposite_of (take e (tests p.tested)))
    ∙ ap (map opposite_of) (take_all e (tests p.tested) (let l = length-map p.tested (λ (x : EntryData). x.test) in omega arith))

pub entry_from_lem : (p : PlaceData) (e n : ℕ) → entry_transition p e ≡ Some n → Entry p e n (entry_facts p e)
entry_from_lem p e n h = from (at e p.tested) refl h
  where
    final_from : (b : Bool) → eqb e (length p.tested) ≡ b → at e p.tested ≡ None → cond b (Some p.last) None ≡ Some n → Entry p e n (entry_facts p e)
    final_from true t a k =
        let l = eqb-true e (length p.tested) t in
        final l (sym (same_some p.last n k)) (own_facts p e None a ∙ last_facts p e l)
    final_from false t a k = none_some n k

    from : (o : Option EntryData) → at e p.tested ≡ o → after_tests p e o ≡ Some n → Entry p e n (entry_facts p e)
    from None a k = final_from (eqb e (length p.tested)) refl a k
    from (Some entry) a k = tested entry a (sym (same_some entry.transition n k)) (own_facts p e (Some entry) a)

pub entry_to : (p : PlaceData) (e n : ℕ) (facts : List Numbers) → Entry p e n facts → (entry_transition p e ≡ Some n) × (entry_facts p e ≡ facts)
entry_to p e n facts (tested entry a number is) =
    (ap (after_tests p e) a ∙ ap (λ (k : ℕ). Some k) (sym number), own_facts p e (Some entry) a ∙ sym is)
entry_to p e n facts (final index number is) =
    let a = sym (at_past p.tested e (omega arith)) in (
      ap (after_tests p e) a ∙ cond-true (eqb e (length p.tested)) (Some p.last) None (eq-eqb e (length p.tested) index) ∙ ap (λ (k : ℕ). Some k) (sym number),
      own_facts p e None a ∙ last_facts p e index ∙ sym is,
    )

-- nothing where a test is passed
unless_parts : {A : Type 0} (o : Option InnerData) (found : Option A) (y : A) → unless (is_some o) found ≡ Some y → (o ≡ None) × (found ≡ Some y)
unless_parts None found y e = (refl, e)
unless_parts (Some i) found y e = none_some y e

module _ (table : TableData) (witness : WitnessData) (fit : Fitting table witness) where
  asks_consecution : (n r : ℕ) (facts : List Numbers) (goal : Numbers) → consecution_of table witness n r ≡ Some (posed facts goal) → Consecutive table witness n r facts goal
  asks_consecution n r facts goal e =
      let a = given_parts (transition_with table n) _ _ e in
      let b = given_parts (inner_with witness n) _ _ a.2 in
      let c = given_parts (place_with witness a.0.start) _ _ b.2 in
      let d = given_parts (place_with witness a.0.target) _ _ c.2 in
      let f = given_parts (at r d.0.condition) _ _ d.2 in
      record {
        taken = a.0;
        inner = b.0;
        from = c.0;
        into = d.0;
        row = f.0;
        known = found_known table witness fit n a.0 a.1;
        declared = found_declared table witness fit n b.0 b.1;
        from_listed = found_listed table witness fit a.0.start c.0 c.1;
        into_listed = found_listed table witness fit a.0.target d.0 d.1;
        row_is = f.1;
        facts_are = facts_asked _ _ _ _ f.2;
        goal_is = goal_asked _ _ _ _ f.2;
      }

  asks_restriction : (n r : ℕ) (facts : List Numbers) (goal : Numbers) → restriction_of table witness n r ≡ Some (posed facts goal) → Restricted table witness n r facts goal
  asks_restriction n r facts goal e =
      let a = given_parts (transition_with table n) _ _ e in
      let b = given_parts (inner_with witness n) _ _ a.2 in
      let c = given_parts (place_with witness a.0.start) _ _ b.2 in
      let f = given_parts (at r b.0.restrictions) _ _ c.2 in
      record {
        taken = a.0;
        inner = b.0;
        from = c.0;
        row = f.0;
        known = found_known table witness fit n a.0 a.1;
        declared = found_declared table witness fit n b.0 b.1;
        from_listed = found_listed table witness fit a.0.start c.0 c.1;
        row_is = f.1;
        facts_are = facts_asked _ _ _ _ f.2;
        goal_is = goal_asked _ _ _ _ f.2;
      }

  asks_guard : (place e r : ℕ) (facts : List Numbers) (goal : Numbers) → guard_of table witness place e r ≡ Some (posed facts goal) → Guarded table witness place e r facts goal
  asks_guard place e r facts goal h =
      let a = given_parts (place_with witness place) _ _ h in
      let b = given_parts (entry_transition a.0 e) _ _ a.2 in
      let c = given_parts (transition_with table b.0) _ _ b.2 in
      let f = given_parts (at r c.0.guard) _ _ c.2 in
      record {
        from = a.0;
        number = b.0;
        reached = entry_facts a.0 e;
        taken = c.0;
        from_listed = found_listed table witness fit place a.0 a.1;
        entry = entry_from_lem a.0 e b.0 b.1;
        known = found_known table witness fit b.0 c.0 c.1;
        row_is = f.1 ∙ ap (λ (row : Numbers). Some row) (sym (goal_asked _ _ _ _ f.2));
        facts_are = facts_asked _ _ _ _ f.2;
      }

  asks_exit : (n : ℕ) (facts : List Numbers) (goal : Numbers) → exit_of table witness n ≡ Some (posed facts goal) → Closed table witness n facts goal
  asks_exit n facts goal e =
      let u = unless_parts (inner_with witness n) _ _ e in
      let a = given_parts (transition_with table n) _ _ u.1 in
      let c = given_parts (place_with witness a.0.start) _ _ a.2 in
      record {
        taken = a.0;
        from = c.0;
        known = found_known table witness fit n a.0 a.1;
        not_inner = λ i d. none_some i (sym u.0 ∙ declared_found table witness fit n i d);
        from_listed = found_listed table witness fit a.0.start c.0 c.1;
        facts_are = facts_asked _ _ _ _ c.2;
        goal_is = goal_asked _ _ _ _ c.2;
      }

  pub asks_posed : (o : Obligation) (facts : List Numbers) (goal : Numbers) → question_of table witness o ≡ Some (posed facts goal) → Poses table witness o facts goal
  unfolding question_of
  asks_posed (Consecution n r) facts goal e = asks_consecution n r facts goal e
  asks_posed (Restriction n r) facts goal e = asks_restriction n r facts goal e
  asks_posed (Guard place e r) facts goal h = asks_guard place e r facts goal h
  asks_posed (Exit n) facts goal e = asks_exit n facts goal e

  -- and the other way round
  asked_consecution : (n r : ℕ) (facts : List Numbers) (goal : Numbers) → Consecutive table witness n r facts goal → consecution_of table witness n r ≡ Some (posed facts goal)
  asked_consecution n r facts goal c =
      given_is (transition_with table n) _ c.taken (known_found table witness fit n c.taken c.known)
      ∙ given_is (inner_with witness n) _ c.inner (declared_found table witness fit n c.inner c.declared)
      ∙ given_is (place_with witness c.taken.start) _ c.from (listed_found table witness fit c.taken.start c.from c.from_listed)
      ∙ given_is (place_with witness c.taken.target) _ c.into (listed_found table witness fit c.taken.target c.into c.into_listed)
      ∙ given_is (at r c.into.condition) _ c.row c.row_is
      ∙ same_posed c.facts_are c.goal_is

  asked_restriction : (n r : ℕ) (facts : List Numbers) (goal : Numbers) → Restricted table witness n r facts goal → restriction_of table witness n r ≡ Some (posed facts goal)
  asked_restriction n r facts goal c =
      given_is (transition_with table n) _ c.taken (known_found table witness fit n c.taken c.known)
      ∙ given_is (inner_with witness n) _ c.inner (declared_found table witness fit n c.inner c.declared)
      ∙ given_is (place_with witness c.taken.start) _ c.from (listed_found table witness fit c.taken.start c.from c.from_listed)
      ∙ given_is (at r c.inner.restrictions) _ c.row c.row_is
      ∙ same_posed c.facts_are c.goal_is

  asked_guard : (place e r : ℕ) (facts : List Numbers) (goal : Numbers) → Guarded table witness place e r facts goal → guard_of table witness place e r ≡ Some (posed facts goal)
  asked_guard place e r facts goal c =
      let t = entry_to c.from e c.number c.reached c.entry in
      given_is (place_with witness place) _ c.from (listed_found table witness fit place c.from c.from_listed)
      ∙ given_is (entry_transition c.from e) _ c.number t.0
      ∙ given_is (transition_with table c.number) _ c.taken (known_found table witness fit c.number c.taken c.known)
      ∙ given_is (at r c.taken.guard) _ goal c.row_is
      ∙ same_posed (c.facts_are ∙ ap (λ (reached : List Numbers). c.from.condition ++ reached) (sym t.1)) refl

  asked_exit : (n : ℕ) (facts : List Numbers) (goal : Numbers) → Closed table witness n facts goal → exit_of table witness n ≡ Some (posed facts goal)
  asked_exit n facts goal c =
      ap (λ (o : Option InnerData). unless (is_some o) (given (transition_with table n) (λ t. given (place_with witness t.start) (λ p. Some (posed (p.condition ++ t.guard) impossible))))) (not_found table witness fit n c.not_inner)
      ∙ given_is (transition_with table n) _ c.taken (known_found table witness fit n c.taken c.known)
      ∙ given_is (place_with witness c.taken.start) _ c.from (listed_found table witness fit c.taken.start c.from c.from_listed)
      ∙ same_posed c.facts_are c.goal_is

  pub posed_asked : (o : Obligation) (facts : List Numbers) (goal : Numbers) → Poses table witness o facts goal → question_of table witness o ≡ Some (posed facts goal)
  unfolding question_of
  posed_asked (Consecution n r) facts goal c = asked_consecution n r facts goal c
  posed_asked (Restriction n r) facts goal c = asked_restriction n r facts goal c
  posed_asked (Guard place e r) facts goal c = asked_guard place e r facts goal c
  posed_asked (Exit n) facts goal c = asked_exit n facts goal c
