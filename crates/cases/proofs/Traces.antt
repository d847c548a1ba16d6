-- The present place and state are reached by a run from an initial state: begin starts it, each advance makes one step more.
use Rattle.std.proofs.Common.{◌≡◌, ℕ, List, map, ℤ, Some, Ok, sym, refl, ◌∙◌}
use lib.ListN.{length-map}
use Rattle.rows.specs.declared.fault.FaultKind.TheVariants.{BeginValues, InitialRowUnmet, AdvanceChoices, GuardRowUnmet}
use Rattle.rows.specs.declared.limits.Limit.TheVariants.{StateValue}
use Rattle.rows.specs.Faults.{check, unless_found}
use Rattle.rows.specs.Limits.{magnitude_of}
use Rattle.rows.proofs.Chains.{both, check_true, found_none}
use Rattle.records.specs.Limits.{most_values, most_choices}
use Rattle.records.specs.Records.{TransitionData, TableData, shape_of}
use Rattle.formats.specs.Valid.{ValidTransition, ValidTable}
use Rattle.semantics.specs.Plans.{first_unmet, transition_with}
use Rattle.semantics.specs.Runs.{Step, Run, still, further, Initial, IsState, RunOn, IsStep, place_after, state_after, value_at, updated}
use Rattle.semantics.specs.Vectors.{padded, at_rest}
use Rattle.semantics.proofs.Members.{first_member, all_member}
use Rattle.semantics.proofs.Points.{padded_filled}
use Rattle.cases.specs.Model.{Present}
use Rattle.cases.specs.Told.{bare, numbers_fit, begin_for, starting_at, chosen_point, advance_by}
use Rattle.cases.proofs.Accepted.{unmet_none}
use Rattle.cases.proofs.Steps.{numbers_counted, starting_parts}

-- a run from an initial state reaches the present place and state
pub record Traced (table : TableData) (p : Present) : Type 0 where
  pub initial : List ℤ
  pub is_initial : Initial table initial
  pub trace : Run
  pub trace_runs : RunOn table table.heading.start initial trace
  pub reaches_place : place_after table.heading.start trace ≡ p.place
  pub reaches_state : state_after initial trace ≡ p.state
  pub is_state : IsState table p.state

-- a first state is initial
pub begun_traced : (table : TableData) (values : List ℤ) → begin_for values table ≡ Ok tt → Traced table (record { place = table.heading.start; state = padded most_values values })
begun_traced table values e =
    let fit = numbers_fit (magnitude_of StateValue) table.heading.values values in
    let unmet = first_unmet (at_rest (padded most_values values)) table.heading.initial in
    let p = both (check fit (bare BeginValues)) (unless_found InitialRowUnmet unmet) e in
    let n = numbers_counted (magnitude_of StateValue) table.heading.values values (check_true fit (bare BeginValues) p.0) in
    let filled = padded_filled most_values table.heading.values values n in
    record {
      initial = padded most_values values;
      is_initial = (filled, unmet_none (at_rest (padded most_values values)) table.heading.initial (found_none InitialRowUnmet unmet p.1));
      trace = still;
      trace_runs = tt;
      reaches_place = refl;
      reaches_state = refl;
      is_state = filled;
    }

-- a step more from the present place and state
module _ (table : TableData) (valid : ValidTable table) (p : Present) (traced : Traced table p) (n : ℕ) (steps : ℕ) (choices : List ℤ) (t : TransitionData) (starts : starting_at p.place (transition_with table n) ≡ Some t) (e : advance_by table.heading.choices steps choices p.state t ≡ Ok tt) where
  abbrev point : List ℤ
  point = chosen_point p.state choices

  abbrev step : Step
  step = record { taken = t; choices = padded most_choices choices; before = p.state; after = updated t point }

  found : (transition_with table n ≡ Some t) × (t.start ≡ p.place)
  found = starting_parts p.place (transition_with table n) t starts

  taken_valid : ValidTransition (shape_of table.heading) t
  taken_valid = all_member (ValidTransition (shape_of table.heading)) table.transitions t valid.each (first_member (λ x. x.number) n table.transitions t found.0).0

  step_made : IsStep table step
  step_made =
      let fit = numbers_fit (magnitude_of StateValue) table.heading.choices choices in
      let unmet = first_unmet (at_rest p.state) t.guard in
      let a = both (check fit (bare AdvanceChoices)) _ e in
      let b = both (unless_found GuardRowUnmet unmet) _ a.1 in
      record {
        known = (first_member (λ x. x.number) n table.transitions t found.0).0;
        guard = unmet_none (at_rest p.state) t.guard (found_none GuardRowUnmet unmet b.0);
        chosen = padded_filled most_choices table.heading.choices choices (numbers_counted (magnitude_of StateValue) table.heading.choices choices (check_true fit (bare AdvanceChoices) a.0));
        result = refl;
      }

  pub advanced_traced : Traced table (record { place = t.target; state = updated t point })
  advanced_traced =
      record {
        initial = traced.initial;
        is_initial = traced.is_initial;
        trace = further traced.trace step;
        trace_runs = (traced.trace_runs, step_made, found.1 ∙ sym traced.reaches_place, sym traced.reaches_state);
        reaches_place = refl;
        reaches_state = refl;
        is_state = padded_filled most_values table.heading.values (map (value_at point) t.updates) (length-map t.updates (value_at point) ∙ taken_valid.update_each);
      }
