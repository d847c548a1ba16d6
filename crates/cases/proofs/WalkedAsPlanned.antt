-- unroll follows the plan's run. The states are walked from the front and the run grows at its end; so the walk is told
-- from the end of any of the plan's runs, on.
use Rattle.std.proofs.Common.{◌≡◌, ℕ, zero, suc, ◌+◌, ◌<◌, ◌≤◌, true, List, [], ◌∷◌, length, get_or, take, ℤ, pos, neg_ℤ, ◌≤ℤ◌, Some, None, Option, sym, refl, ap, ◌∙◌, subst, inl, inr, arith}
use lib.Signed.{le_z}
use borrow.Author.Differences.{le-true, true_is_le}
use Rattle.std.proofs.lemmas.List.{length-map, get_or-map}
use Rattle.std.proofs.lemmas.Int.{ints}
use Rattle.std.proofs.lemmas.Bool.{and_parts, and_from, both_ways, cases_eq, cases_lt, cond_both}
use Rattle.std.specs.List.{AllByRecursion}
use Rattle.rows.specs.declared.limits.Limit.TheVariants.{StateValue}
use Rattle.rows.specs.Limits.{magnitude_of, within}
use Rattle.records.specs.Records.{TableData, WitnessData}
use Rattle.semantics.proofs.Members.{none_some, same_some}
use Rattle.semantics.specs.Plans.{plan_step, plan_run, further_by}
use Rattle.semantics.specs.Runs.{Step, Run, step_count, place_after, state_after, EachStep}
use Rattle.cases.specs.Model.{Present}
use Rattle.cases.specs.Told.{all_within, step_within, where_within, walked, unrolled_from}
use Rattle.cases.specs.Unrolls.{InRange, StepInRange, StaysFor, AsPlanned, UnrollsAsPlanned}

-- the tests on numbers and steps
le_holds : (a b : ℤ) → le_z a b ≡ true → a ≤ℤ b
le_holds a b e = omega (arith, ints, le-true a b e)

le_passes : (a b : ℤ) → a ≤ℤ b → le_z a b ≡ true
le_passes a b h = sym (true_is_le a b (omega (arith, ints)))

in_range_lem : (z : ℤ) → within (magnitude_of StateValue) z ≡ true → InRange z
in_range_lem z e =
    let b = and_parts (le_z (neg_ℤ (pos (magnitude_of StateValue))) z) (le_z z (pos (magnitude_of StateValue))) e in
    record { least = le_holds _ _ b.0; most = le_holds _ _ b.1 }

range_passes : (z : ℤ) → InRange z → within (magnitude_of StateValue) z ≡ true
range_passes z r = and_from (le_z (neg_ℤ (pos (magnitude_of StateValue))) z) (le_z z (pos (magnitude_of StateValue))) (le_passes _ _ r.least) (le_passes _ _ r.most)

all_range : (zs : List ℤ) → all_within (magnitude_of StateValue) zs ≡ true → AllByRecursion InRange zs
all_range [] e = tt
all_range (z ∷ zs) e =
    let b = and_parts (within (magnitude_of StateValue) z) (all_within (magnitude_of StateValue) zs) e in
    (in_range_lem z b.0, all_range zs b.1)

all_passes : (zs : List ℤ) → AllByRecursion InRange zs → all_within (magnitude_of StateValue) zs ≡ true
all_passes [] a = refl
all_passes (z ∷ zs) a = and_from (within (magnitude_of StateValue) z) (all_within (magnitude_of StateValue) zs) (range_passes z a.0) (all_passes zs a.1)

step_range : (s : Step) → step_within s ≡ true → StepInRange s
step_range s e =
    let b = and_parts (all_within (magnitude_of StateValue) s.choices) (all_within (magnitude_of StateValue) s.after) e in
    record { choices = all_range s.choices b.0; values = all_range s.after b.1 }

step_passes : (s : Step) → StepInRange s → step_within s ≡ true
step_passes s r =
    and_from (all_within (magnitude_of StateValue) s.choices) (all_within (magnitude_of StateValue) s.after) (all_passes s.choices r.choices) (all_passes s.after r.values)

-- a step more: how many there are then, and what a run with one step more says of its parts
count_more : (r : Run) (i : ℕ) (o : Option Step) → step_count r ≤ i → step_count (further_by r o) ≤ suc i
count_more r i None h = omega arith
count_more r i (Some s) h = omega arith

record LastStep (r : Run) (i : ℕ) (o : Option Step) : Type 0 where
  earlier_made : step_count r ≡ i
  earlier_stay : EachStep StepInRange r
  step : Step
  is_step : o ≡ Some step
  ranged : StepInRange step

last_step : (r : Run) (i : ℕ) (o : Option Step) → step_count r ≤ i → step_count (further_by r o) ≡ suc i → EachStep StepInRange (further_by r o) → LastStep r i o
last_step r i None h e stay = absurd (omega arith)
last_step r i (Some s) h e stay = record { earlier_made = omega arith; earlier_stay = stay.0; step = s; is_step = refl; ranged = stay.1 }

module _ (table : TableData) (witness : WitnessData) (p : Present) where
  abbrev run : ℕ → Run
  run i = plan_run table witness p.place p.state i

  abbrev end_place : ℕ → ℕ
  end_place i = place_after p.place (run i)

  abbrev end_state : ℕ → List ℤ
  end_state i = state_after p.state (run i)

  abbrev next : ℕ → Option Step
  next i = plan_step table witness (end_place i) (end_state i)

  abbrev Stays : ℕ → Type 0
  Stays i = StaysFor table witness p i

  grows : (i : ℕ) (o : Option Step) → next i ≡ o → run (suc i) ≡ further_by (run i) o
  unfolding plan_run
  grows i o e = ap (further_by (run i)) e

  count_most : (i : ℕ) → step_count (run i) ≤ i
  unfolding plan_run
  count_most zero = omega arith
  count_most (suc i) = count_more (run i) i (next i) (count_most i)

  -- the plan that stays for one step more stays so long, and makes that step
  last_of : (i : ℕ) → Stays (suc i) → LastStep (run i) i (next i)
  unfolding plan_run
  last_of i s = last_step (run i) i (next i) (count_most i) s.made s.stays

  stays_less : (j i : ℕ) → i ≤ j → Stays j → Stays i
  stays_less zero i h s = subst Stays (omega arith) s
  stays_less (suc j) i h s =
      elim (cases_eq i (suc j)) [
        | inl e ↦ subst Stays (sym e) s
        | inr other ↦ let l = last_of j s in stays_less j i (omega arith) (record { made = l.earlier_made; stays = l.earlier_stay })
      ]

  stays_more : (i : ℕ) (s : Step) → next i ≡ Some s → StepInRange s → Stays i → Stays (suc i)
  stays_more i s e r st = record {
    made = subst (λ x. step_count x ≡ suc i) (sym (grows i (Some s) e)) (ap suc st.made);
    stays = subst (EachStep StepInRange) (sym (grows i (Some s) e)) (st.stays, r);
  }

  -- states walked from the end of a run of the plan, n of them at most
  record Onward (i n : ℕ) (states : List (List ℤ)) : Type 0 where
    at_most : length states ≤ n
    are : (k : ℕ) → k ≤ length states → get_or (end_state i ∷ states) k [] ≡ end_state (i + k)
    stay : Stays i → Stays (i + length states)
    stop : length states < n → Stays (suc (i + length states)) → ⊥

  none_walked : (n i : ℕ) → (0 < n → Stays (suc i) → ⊥) → Onward i n []
  none_walked n i stop = record {
    at_most = omega arith;
    are = λ k h. at_first k (omega arith);
    stay = subst Stays (omega arith);
    stop = λ h s. stop h (subst (λ x. Stays (suc x)) (omega arith) s);
  }
    where
      at_first : (k : ℕ) → 0 ≡ k → get_or (end_state i ∷ []) k [] ≡ end_state (i + k)
      at_first k e = subst (λ k. get_or (end_state i ∷ []) k [] ≡ end_state (i + k)) e (ap end_state (omega arith))

  one_walked : (n i : ℕ) (s : Step) (states : List (List ℤ)) → next i ≡ Some s → StepInRange s → Onward (suc i) n states → Onward i (suc n) (s.after ∷ states)
  one_walked n i s states e r o = record {
    at_most = omega (arith, o.at_most);
    are = are;
    stay = λ st. subst Stays (omega arith) (o.stay (stays_more i s e r st));
    stop = λ h st. o.stop (omega arith) (subst (λ x. Stays (suc x)) (omega arith) st);
  }
    where
      reached : s.after ≡ end_state (suc i)
      reached = sym (ap (state_after p.state) (grows i (Some s) e))

      are : (k : ℕ) → k ≤ length (s.after ∷ states) → get_or (end_state i ∷ s.after ∷ states) k [] ≡ end_state (i + k)
      are zero h = ap end_state (omega arith)
      are (suc k) h = ap (λ x. get_or (x ∷ states) k []) reached ∙ o.are k (omega arith) ∙ ap end_state (omega arith)

  -- walking on, by the plan's next step
  walked_by : (n i : ℕ) (o : Option Step) → next i ≡ o → ((s : Step) → o ≡ Some s → Onward (suc i) n (walked table witness n s.taken.target s.after)) → Onward i (suc n) (where_within o (λ s. s.after ∷ walked table witness n s.taken.target s.after))
  walked_by n i None e more = none_walked (suc n) i (λ h st. none_some _ (sym e ∙ (last_of i st).is_step))
  walked_by n i (Some s) e more =
      cond_both (step_within s) (s.after ∷ walked table witness n s.taken.target s.after) [] (Onward i (suc n))
      (λ t. one_walked n i s (walked table witness n s.taken.target s.after) e (step_range s t) (more s refl))
      (λ t. none_walked (suc n) i (λ h st. let l = last_of i st in both_ways (step_within s) t (step_passes s (subst StepInRange (same_some l.step s (sym l.is_step ∙ e)) l.ranged))))

  onward : (n i : ℕ) → Onward i n (walked table witness n (end_place i) (end_state i))
  unfolding walked
  onward zero i = none_walked 0 i (λ h st. omega arith)
  onward (suc n) i =
      walked_by n i (next i) refl
      (λ s e. subst (λ r. Onward (suc i) n (walked table witness n (place_after p.place r) (state_after p.state r))) (grows i (Some s) e) (onward n (suc i)))

  as_planned : (n : ℕ) → AsPlanned table witness n p (unrolled_from table witness n p)
  unfolding plan_run
  as_planned n =
      let o = onward n 0 in
      let states = walked table witness n p.place p.state in
      record {
        at_most = o.at_most;
        stays = subst Stays (omega arith) (o.stay (record { made = refl; stays = tt }));
        greatest = λ j h st. elim (cases_lt (length states) j) [ inl l ↦ absurd (o.stop (omega arith) (stays_less j (suc (0 + length states)) (omega arith) st)) | inr l ↦ l ];
        state_count = ap suc (length-map states (take table.heading.values));
        states_are = λ k h. get_or-map (take table.heading.values) (p.state ∷ states) k [] [] (omega arith) ∙ ap (take table.heading.values) (o.are k h ∙ ap end_state (omega arith));
      }

pub unrolls_as_planned : UnrollsAsPlanned
unrolls_as_planned table witness n p = as_planned table witness p n
