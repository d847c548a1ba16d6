-- Obligations that hold sustain the witness: inner steps that keep the restrictions carry the conditions along, no other
-- step can be made, and the plan's step can be made and keeps them.
use Rattle.std.proofs.Common.{◌≡◌, ℕ, List, ◌++◌, map, ℤ, Some, None, Option, sym, refl, ap, ◌∙◌, subst}
use lib.ListN.{length-map}
use Rattle.std.proofs.ByRecursion.{All-append}
use Rattle.rows.specs.declared.numbers.Numbers.{Numbers}
use Rattle.rows.specs.Shapes.{Meets, MeetsAll}
use Rattle.records.specs.Limits.{most_values, most_choices}
use Rattle.records.specs.Records.{TransitionData, TableData, PlaceData, InnerData, WitnessData}
use Rattle.formats.specs.Valid.{EntryFits}
use Rattle.semantics.specs.declared.obligation.Obligation.TheVariants.{Consecution, Restriction, Guard, Exit}
use Rattle.semantics.specs.Goals.{after_update, with_choices, impossible}
use Rattle.semantics.specs.Laws.{Fitting, Within, PlanStep, ObligationsSustain}
use Rattle.semantics.specs.Obligations.{Known, Listed, AllHold}
use Rattle.semantics.specs.Plans.{plan_step, planned_at, choices_of, inner_with, step_by, chosen_step, step_at_place}
use Rattle.semantics.specs.Runs.{Member, Step, IsStep, IsState, IsInner, KeepsAt, Declared, value_at}
use Rattle.semantics.specs.Vectors.{point_of, at_rest, Holds}
use Rattle.semantics.proofs.GoalsMet.{update_goal, choice_goal}
use Rattle.semantics.proofs.Lookups.{shape, declared_found, listed_found, found_known, found_declared, one_inner, valid_taken, valid_place, valid_inner, plan_fits, inner_ends}
use Rattle.semantics.proofs.Members.{all_from_members, member_at, among_first, none_some}
use Rattle.semantics.proofs.PlannedEntries.{Taken, planned_fits, entry_taken}
use Rattle.semantics.proofs.Points.{padded_filled}
use Rattle.semantics.proofs.StateRows.{holds_with, never_met}

module _ (table : TableData) (witness : WitnessData) (fit : Fitting table witness) (hold : AllHold table witness) where
  -- a step by an inner transition that keeps its restriction
  module _ (s : Step) (made : IsStep table s) (from : Within table witness s.taken.start s.before) where
    abbrev point : List ℤ
    point = point_of s.before s.choices

    condition_met : MeetsAll point from.at.condition
    condition_met = holds_with (shape table witness fit) from.at.condition (valid_place table witness fit from.at from.listed.0).condition.each s.before s.choices from.is_state.sized from.holds

    guard_met : MeetsAll point s.taken.guard
    guard_met = holds_with (shape table witness fit) s.taken.guard (valid_taken table witness fit s.taken made.known).guard.each s.before s.choices from.is_state.sized made.guard

    after_met : (i : InnerData) → Declared witness s.taken.number i → MeetsAll point i.restrictions → (into : PlaceData) → Listed witness s.taken.target into → Holds s.after into.condition
    after_met i declared kept into listed = all_from_members (Meets (at_rest s.after)) into.condition each
      where
        each : (row : Numbers) → Member row into.condition → Meets (at_rest s.after) row
        each row m =
            let r = member_at into.condition row m in
            let f = hold (Consecution s.taken.number r.0) (from.at.condition ++ (s.taken.guard ++ i.restrictions)) (after_update s.taken row) (record {
              taken = s.taken;
              inner = i;
              from = from.at;
              into = into;
              row = row;
              known = (made.known, refl);
              declared = declared;
              from_listed = from.listed;
              into_listed = listed;
              row_is = r.1;
              facts_are = refl;
              goal_is = refl;
            }) in
            let met = All-append (Meets point) from.at.condition (s.taken.guard ++ i.restrictions) condition_met (All-append (Meets point) s.taken.guard i.restrictions guard_met kept) in
            subst (λ state. Meets (at_rest state) row) (sym made.result) ((update_goal s.taken row).carried point (f point met))

    after_state : IsState table s.after
    after_state =
        subst (IsState table) (sym made.result) (padded_filled most_values table.heading.values (map (value_at point) s.taken.updates) (length-map s.taken.updates (value_at point) ∙ (valid_taken table witness fit s.taken made.known).update_each))

    step_carried : IsInner witness s → KeepsAt witness s → Within table witness s.taken.target s.after
    step_carried inner keeps =
        let ends = inner_ends table witness fit s.taken.number inner.0 s.taken inner.1 (made.known, refl) in
        record {
          at = ends.into;
          listed = ends.into_listed;
          is_state = after_state;
          holds = after_met inner.0 inner.1 (keeps inner.0 inner.1) ends.into ends.into_listed;
        }

    -- no other step can be made
    step_closed : IsInner witness s
    step_closed = decide (inner_with witness s.taken.number) refl
      where
        decide : (o : Option InnerData) → inner_with witness s.taken.number ≡ o → IsInner witness s
        decide (Some i) e = (i, found_declared table witness fit s.taken.number i e)
        decide None e =
            absurd (never_met (at_rest s.before) (hold (Exit s.taken.number) (from.at.condition ++ s.taken.guard) impossible (record {
              taken = s.taken;
              from = from.at;
              known = (made.known, refl);
              not_inner = λ i d. none_some i (sym e ∙ declared_found table witness fit s.taken.number i d);
              from_listed = from.listed;
              facts_are = refl;
              goal_is = refl;
            }) (at_rest s.before) (All-append (Meets (at_rest s.before)) from.at.condition s.taken.guard from.holds made.guard)))

  -- the plan's step
  module _ (place : ℕ) (state : List ℤ) (within : Within table witness place state) where
    abbrev p : PlaceData
    p = within.at

    abbrev number : ℕ
    number = planned_at p state

    entry_fits_lem : EntryFits table.transitions witness p.number number
    entry_fits_lem =
        let f = plan_fits table witness fit p within.listed.0 in
        planned_fits (EntryFits table.transitions witness p.number) (at_rest state) p.tested p.last f.0 f.1

    abbrev t : TransitionData
    t = entry_fits_lem.0.0

    taken_known : Known table number t
    taken_known = found_known table witness fit number t entry_fits_lem.0.1

    leaves_place : t.start ≡ place
    leaves_place = entry_fits_lem.0.2 ∙ within.listed.1

    inner_found : (i : InnerData) × (inner_with witness number ≡ Some i)
    inner_found = among_first (λ (x : InnerData). x.number) number witness.inners entry_fits_lem.1

    abbrev i : InnerData
    i = inner_found.0

    inner_declared : Declared witness t.number i
    inner_declared = let d = found_declared table witness fit number i inner_found.1 in (d.0, d.1 ∙ sym taken_known.1)

    -- its guard is met
    guard_holds : Holds state t.guard
    guard_holds = all_from_members (Meets (at_rest state)) t.guard each
      where
        taken : Taken p (at_rest state) number
        taken = entry_taken p (at_rest state) p.tested

        each : (row : Numbers) → Member row t.guard → Meets (at_rest state) row
        each row m =
            let r = member_at t.guard row m in
            hold (Guard place taken.index r.0) (p.condition ++ taken.facts) row (record {
              from = p;
              number = number;
              reached = taken.facts;
              taken = t;
              from_listed = within.listed;
              entry = taken.entry;
              known = taken_known;
              row_is = r.1;
              facts_are = refl;
            }) (at_rest state) (All-append (Meets (at_rest state)) p.condition taken.facts within.holds taken.met)

    -- its choices meet the restriction
    restrictions_met : MeetsAll (point_of state (choices_of i state)) i.restrictions
    restrictions_met = all_from_members (Meets (point_of state (choices_of i state))) i.restrictions each
      where
        each : (row : Numbers) → Member row i.restrictions → Meets (point_of state (choices_of i state)) row
        each row m =
            let r = member_at i.restrictions row m in
            let f = hold (Restriction t.number r.0) (p.condition ++ t.guard) (with_choices i row) (record {
              taken = t;
              inner = i;
              from = p;
              row = row;
              known = (taken_known.0, refl);
              declared = inner_declared;
              from_listed = (within.listed.0, within.listed.1 ∙ sym leaves_place);
              row_is = r.1;
              facts_are = refl;
              goal_is = refl;
            }) in
            (choice_goal i row).carried state within.is_state.sized (f (at_rest state) (All-append (Meets (at_rest state)) p.condition t.guard within.holds guard_holds))

    step_made : IsStep table (step_by t i state)
    step_made =
        record {
          known = taken_known.0;
          guard = guard_holds;
          chosen = padded_filled most_choices table.heading.choices (map (value_at (at_rest state)) i.choices) (length-map i.choices (value_at (at_rest state)) ∙ (valid_inner table witness fit i inner_declared.0).choice_each);
          result = refl;
        }

    step_found : plan_step table witness place state ≡ Some (step_by t i state)
    unfolding plan_step
    step_found =
        ap (step_at_place table witness state) (listed_found table witness fit place p within.listed)
        ∙ ap (λ o. chosen_step state o (inner_with witness number)) entry_fits_lem.0.1
        ∙ ap (chosen_step state (Some t)) inner_found.1

    step_planned : PlanStep table witness place state
    step_planned =
        record {
          step = step_by t i state;
          found = step_found;
          made = step_made;
          leaves = leaves_place;
          begins = refl;
          inner = (i, inner_declared);
          keeps = λ j d. subst (λ (k : InnerData). MeetsAll (point_of state (choices_of i state)) k.restrictions) (one_inner table witness fit t.number i j inner_declared d) restrictions_met;
        }

pub obligations_sustain_lem : ObligationsSustain
obligations_sustain_lem table witness fit hold =
    record {
      carried = λ s made from inner keeps. step_carried table witness fit hold s made from inner keeps;
      closed = λ s made from. step_closed table witness fit hold s made from;
      planned = λ place state within. step_planned table witness fit hold place state within;
    }
