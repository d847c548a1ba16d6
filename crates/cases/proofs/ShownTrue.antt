-- What was shown is true: prove shows obligations that hold, and an obligation keeps holding where rows are added to the
-- witness, since these only add facts to it.
use Rattle.std.proofs.Common.{◌≡◌, ℕ, zero, suc, Bool, true, false, cond, List, [], ◌∷◌, ◌++◌, map, length, take, ℤ, Some, Ok, sym, refl, ap, ◌∙◌, subst, inl, inr}
use Rattle.std.proofs.lemmas.List.{append-nil}
use Rattle.rows.specs.declared.numbers.Numbers.{Numbers}
use Rattle.rows.specs.Shapes.{opposite_of}
use Rattle.methods.specs.Questions.{Meaning, Lawful, question}
use Rattle.records.specs.Lists.{at}
use Rattle.records.specs.Records.{TableData, EntryData, PlaceData, InnerData, WitnessData, shape_of}
use Rattle.records.specs.Slots.{over_values}
use Rattle.semantics.specs.declared.obligation.Obligation.{Obligation}
use Rattle.semantics.specs.declared.obligation.Obligation.TheVariants.{Consecution, Restriction, Guard, Exit}
use Rattle.semantics.specs.Enumerated.{Posed, question_of}
use Rattle.semantics.specs.Goals.{with_choices}
use Rattle.semantics.specs.Laws.{Fitting}
use Rattle.semantics.specs.Obligations.{tests, Entry, tested, final, Poses, Consecutive, Restricted, Guarded, Closed, Follows}
use Rattle.semantics.specs.Runs.{Member}
use Rattle.semantics.proofs.Gathering.{member_left, member_right, member_either}
use Rattle.semantics.proofs.Listing.{obligations_agree_lem}
use Rattle.semantics.proofs.Members.{none_some}
use Rattle.semantics.proofs.StateRows.{follows_more}
use Rattle.cases.specs.Model.{same, with_shown}
use Rattle.cases.specs.Told.{added_row}
use Rattle.cases.specs.Worked.{strengthened_place, restricted_inner}
use Rattle.cases.proofs.AddedRows.{member_changed, changed_member, strengthened, restricted}
use Rattle.cases.proofs.Standing.{same_is}

-- an obligation that is posed, and holds
pub record Proven (table : TableData) (witness : WitnessData) (o : Obligation) : Type 0 where
  pub facts : List Numbers
  pub goal : Numbers
  pub posed : Poses table witness o facts goal
  pub follows : Follows facts goal

-- a place and an inner transition with rows added behind
pub record PlaceGrown (p q : PlaceData) : Type 0 where
  pub number : q.number ≡ p.number
  pub more : List Numbers
  pub condition : q.condition ≡ p.condition ++ more
  pub tested : q.tested ≡ p.tested
  pub last : q.last ≡ p.last

pub record InnerGrown (i j : InnerData) : Type 0 where
  pub number : j.number ≡ i.number
  pub more : List Numbers
  pub restrictions : j.restrictions ≡ i.restrictions ++ more
  pub choices : j.choices ≡ i.choices

-- a witness whose places and inner transitions are those of another, with rows added
pub record Grown (w v : WitnessData) : Type 0 where
  pub places : (p : PlaceData) → Member p w.places → (q : PlaceData) × Member q v.places × PlaceGrown p q
  pub inners : (i : InnerData) → Member i w.inners → (j : InnerData) × Member j v.inners × InnerGrown i j
  pub inners_only : (j : InnerData) → Member j v.inners → (i : InnerData) × Member i w.inners × InnerGrown i j

-- a row keeps its index where rows are added behind
at_left : {X : Type 0} (xs ys : List X) (i : ℕ) (x : X) → at i xs ≡ Some x → at i (xs ++ ys) ≡ Some x
at_left [] ys zero x e = none_some x e
at_left [] ys (suc i) x e = none_some x e
at_left (z ∷ zs) ys zero x e = e
at_left (z ∷ zs) ys (suc i) x e = at_left zs ys i x e

-- elements of two lists, each among those of another
abbrev Among : List Numbers → List Numbers → Type 0
Among xs ys = (x : Numbers) → Member x xs → Member x ys

among_joined : (xs xs' ys ys' : List Numbers) → Among xs xs' → Among ys ys' → Among (xs ++ ys) (xs' ++ ys')
among_joined xs xs' ys ys' f g x m =
    elim (member_either xs ys x m) [
      | inl h ↦ member_left xs' ys' x (f x h)
      | inr h ↦ member_right xs' ys' x (g x h)
    ]

among_grown : (xs ys more : List Numbers) → ys ≡ xs ++ more → Among xs ys
among_grown xs ys more e x m = subst (Member x) (sym e) (member_left xs more x m)

-- facts that begin with the condition of a place are among those that begin with the grown one
facts_grown : (p q : PlaceData) → PlaceGrown p q → (facts rest more : List Numbers) → facts ≡ p.condition ++ rest → Among rest more → Among facts (q.condition ++ more)
facts_grown p q g facts rest more e f =
    subst (λ (xs : List Numbers). Among xs (q.condition ++ more)) (sym e) (among_joined p.condition q.condition rest more (among_grown p.condition q.condition g.more g.condition) f)

module _ (table : TableData) (w v : WitnessData) (grown : Grown w v) where
  -- the facts of an obligation, more of them, and the same goal
  abbrev Kept : Obligation → List Numbers → Numbers → Type 0
  Kept o facts goal = (more : List Numbers) × Poses table v o more goal × Among facts more

  consecution_kept : (n r : ℕ) (facts : List Numbers) (goal : Numbers) → Consecutive table w n r facts goal → Kept (Consecution n r) facts goal
  consecution_kept n r facts goal c =
      let from = grown.places c.from c.from_listed.0 in
      let into = grown.places c.into c.into_listed.0 in
      let inner = grown.inners c.inner c.declared.0 in
      let kept = among_joined c.taken.guard c.taken.guard c.inner.restrictions inner.0.restrictions (λ x m. m) (among_grown c.inner.restrictions inner.0.restrictions inner.2.more inner.2.restrictions) in (
        from.0.condition ++ (c.taken.guard ++ inner.0.restrictions),
        record {
          taken = c.taken;
          inner = inner.0;
          from = from.0;
          into = into.0;
          row = c.row;
          known = c.known;
          declared = (inner.1, inner.2.number ∙ c.declared.1);
          from_listed = (from.1, from.2.number ∙ c.from_listed.1);
          into_listed = (into.1, into.2.number ∙ c.into_listed.1);
          row_is = ap (at r) into.2.condition ∙ at_left c.into.condition into.2.more r c.row c.row_is;
          facts_are = refl;
          goal_is = c.goal_is;
        },
        facts_grown c.from from.0 from.2 facts (c.taken.guard ++ c.inner.restrictions) (c.taken.guard ++ inner.0.restrictions) c.facts_are kept,
      )

  restriction_kept : (n r : ℕ) (facts : List Numbers) (goal : Numbers) → Restricted table w n r facts goal → Kept (Restriction n r) facts goal
  restriction_kept n r facts goal c =
      let from = grown.places c.from c.from_listed.0 in
      let inner = grown.inners c.inner c.declared.0 in (
        from.0.condition ++ c.taken.guard,
        record {
          taken = c.taken;
          inner = inner.0;
          from = from.0;
          row = c.row;
          known = c.known;
          declared = (inner.1, inner.2.number ∙ c.declared.1);
          from_listed = (from.1, from.2.number ∙ c.from_listed.1);
          row_is = ap (at r) inner.2.restrictions ∙ at_left c.inner.restrictions inner.2.more r c.row c.row_is;
          facts_are = refl;
          goal_is = c.goal_is ∙ ap (λ (cs : List Numbers). with_choices (record { number = 0; restrictions = []; choices = cs }) c.row) (sym inner.2.choices);
        },
        facts_grown c.from from.0 from.2 facts c.taken.guard c.taken.guard c.facts_are (λ x m. m),
      )

  -- the plan of a place that has grown
  entry_kept : (p q : PlaceData) → PlaceGrown p q → (e n : ℕ) (facts : List Numbers) → Entry p e n facts → Entry q e n facts
  entry_kept p q g e n facts (tested entry a b c) =
      tested entry (ap (at e) g.tested ∙ a) b (c ∙ ap (λ (es : List EntryData). map opposite_of (take e (tests es)) ++ entry.test ∷ []) (sym g.tested))
  entry_kept p q g e n facts (final a b c) =
      final (a ∙ ap length (sym g.tested)) (b ∙ sym g.last) (c ∙ ap (λ (es : List EntryData). map opposite_of (tests es)) (sym g.tested))

  guard_kept : (place e r : ℕ) (facts : List Numbers) (goal : Numbers) → Guarded table w place e r facts goal → Kept (Guard place e r) facts goal
  guard_kept place e r facts goal c =
      let from = grown.places c.from c.from_listed.0 in (
        from.0.condition ++ c.reached,
        record {
          from = from.0;
          number = c.number;
          reached = c.reached;
          taken = c.taken;
          from_listed = (from.1, from.2.number ∙ c.from_listed.1);
          entry = entry_kept c.from from.0 from.2 e c.number c.reached c.entry;
          known = c.known;
          row_is = c.row_is;
          facts_are = refl;
        },
        facts_grown c.from from.0 from.2 facts c.reached c.reached c.facts_are (λ x m. m),
      )

  exit_kept : (n : ℕ) (facts : List Numbers) (goal : Numbers) → Closed table w n facts goal → Kept (Exit n) facts goal
  exit_kept n facts goal c =
      let from = grown.places c.from c.from_listed.0 in (
        from.0.condition ++ c.taken.guard,
        record {
          taken = c.taken;
          from = from.0;
          known = c.known;
          not_inner = λ j d. let i = grown.inners_only j d.0 in c.not_inner i.0 (i.1, sym i.2.number ∙ d.1);
          from_listed = (from.1, from.2.number ∙ c.from_listed.1);
          facts_are = refl;
          goal_is = c.goal_is;
        },
        facts_grown c.from from.0 from.2 facts c.taken.guard c.taken.guard c.facts_are (λ x m. m),
      )

  poses_kept : (o : Obligation) (facts : List Numbers) (goal : Numbers) → Poses table w o facts goal → Kept o facts goal
  poses_kept (Consecution n r) facts goal c = consecution_kept n r facts goal c
  poses_kept (Restriction n r) facts goal c = restriction_kept n r facts goal c
  poses_kept (Guard place e r) facts goal c = guard_kept place e r facts goal c
  poses_kept (Exit n) facts goal c = exit_kept n facts goal c

  -- what holds still holds
  pub proven_grown : (o : Obligation) → Proven table w o → Proven table v o
  proven_grown o p =
      let k = poses_kept o p.facts p.goal p.posed in
      record { facts = k.0; goal = p.goal; posed = k.1; follows = follows_more p.facts k.0 p.goal p.follows k.2 }

-- rows added by strengthen or restrict
place_itself : (p : PlaceData) → PlaceGrown p p
place_itself p = record { number = refl; more = []; condition = sym (append-nil p.condition); tested = refl; last = refl }

inner_itself : (i : InnerData) → InnerGrown i i
inner_itself i = record { number = refl; more = []; restrictions = sym (append-nil i.restrictions); choices = refl }

module _ (table : TableData) (w : WitnessData) (number : ℕ) (numbers : List ℤ) where
  abbrev condition_row : Numbers
  condition_row = added_row (over_values (shape_of table.heading)) numbers

  abbrev restriction_row : Numbers
  restriction_row = added_row (shape_of table.heading) numbers

  place_more : (p : PlaceData) → PlaceGrown p (strengthened_place condition_row p)
  place_more p = record { number = refl; more = condition_row ∷ []; condition = refl; tested = refl; last = refl }

  inner_more : (i : InnerData) → InnerGrown i (restricted_inner restriction_row i)
  inner_more i = record { number = refl; more = restriction_row ∷ []; restrictions = refl; choices = refl }

  pub strengthened_grown : Grown w (strengthened table w number numbers)
  strengthened_grown =
      record {
        places = member_changed (λ (p : PlaceData). p.number) number (strengthened_place condition_row) PlaceGrown place_itself place_more w.places;
        inners = λ i m. (i, m, inner_itself i);
        inners_only = λ i m. (i, m, inner_itself i);
      }

  pub restricted_grown : Grown w (restricted table w number numbers)
  restricted_grown =
      record {
        places = λ p m. (p, m, place_itself p);
        inners = member_changed (λ (i : InnerData). i.number) number (restricted_inner restriction_row) InnerGrown inner_itself inner_more w.inners;
        inners_only = changed_member (λ (i : InnerData). i.number) number (restricted_inner restriction_row) InnerGrown inner_itself inner_more w.inners;
      }

-- an obligation that a method says yes to holds
pub yes_proven :
    (table : TableData) (witness : WitnessData) → Fitting table witness → (meaning : Meaning) → Lawful meaning → (o : Obligation) (certificate : List ℕ) (rows : ℕ) (q : Posed)
    → question_of table witness o ≡ Some q → meaning (question q.facts q.goal certificate rows) ≡ Ok tt → Proven table witness o
yes_proven table witness fit meaning lawful o certificate rows q found said =
    record {
      facts = q.facts;
      goal = q.goal;
      posed = (obligations_agree_lem table witness fit).asks o q.facts q.goal found;
      follows = lawful.sound (question q.facts q.goal certificate rows) said;
    }

-- one obligation more that holds
pub marked_proven : (P : Obligation → Type 0) (o : Obligation) (shown : Obligation → Bool) → P o → ((x : Obligation) → shown x ≡ true → P x) → (x : Obligation) → with_shown o shown x ≡ true → P x
marked_proven P o shown p h x e = from (same o x) refl e
  where
    from : (b : Bool) → same o x ≡ b → cond b true (shown x) ≡ true → P x
    from true s k = subst P (same_is o x s) p
    from false s k = h x k
