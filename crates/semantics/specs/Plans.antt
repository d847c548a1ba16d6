-- The plan of a listed place: which inner transition it takes in a state, and with which choices. The plan's step and its
-- runs follow from that.
use Rattle.std.specs.Prelude.{ℕ, zero, suc, Bool, cond, not, List, [], ◌∷◌, map, length, ℤ, Some, None, Option, int_le, slice_index_or}
use Rattle.rows.specs.declared.numbers.Numbers.{Numbers}
use Rattle.rows.specs.Firsts.{first_below}
use Rattle.rows.specs.Shapes.{dot}
use Rattle.rows.specs.Zeros.{zero_numbers}
use Rattle.records.specs.Limits.{most_choices}
use Rattle.records.specs.Lists.{first_with}
use Rattle.records.specs.Records.{TransitionData, TableData, EntryData, PlaceData, InnerData, WitnessData}
use Rattle.semantics.specs.Runs.{Step, Run, still, further, place_after, state_after, value_at, updated}
use Rattle.semantics.specs.Vectors.{padded, point_of, at_rest}

-- whether a point meets a row
abbrev pub meets : List ℤ → Numbers → Bool
meets point row = int_le (dot row.coefficients point) row.bound

-- the row with an index is not met, and the index of the first such row
abbrev pub unmet : List ℤ → List Numbers → ℕ → Bool
unmet point rows k = not (meets point (slice_index_or rows k zero_numbers))

abbrev pub first_unmet : List ℤ → List Numbers → Option ℕ
first_unmet point rows = first_below (unmet point rows) (length rows)

-- the transition of the first entry whose test is met, else of the last entry
abbrev pub planned : List ℤ → List EntryData → ℕ → ℕ
planned point [] last = last
planned point (e ∷ es) last = cond (meets point e.test) e.transition (planned point es last)

abbrev pub planned_at : PlaceData → List ℤ → ℕ
planned_at place state = planned (at_rest state) place.tested place.last

-- the choices that an inner transition makes in a state
abbrev pub choices_of : InnerData → List ℤ → List ℤ
choices_of i state = padded most_choices (map (value_at (at_rest state)) i.choices)

-- the table's transition, the witness's inner transition and its listed place with a number
abbrev pub transition_with : TableData → ℕ → Option TransitionData
transition_with table n = first_with (λ t. t.number) n table.transitions

abbrev pub inner_with : WitnessData → ℕ → Option InnerData
inner_with witness n = first_with (λ i. i.number) n witness.inners

abbrev pub place_with : WitnessData → ℕ → Option PlaceData
place_with witness n = first_with (λ p. p.number) n witness.places

-- the step by a transition with the choices of its inner transition
abbrev pub step_by : TransitionData → InnerData → List ℤ → Step
step_by t i state = record {
  taken = t;
  choices = choices_of i state;
  before = state;
  after = updated t (point_of state (choices_of i state));
}

abbrev pub chosen_step : List ℤ → Option TransitionData → Option InnerData → Option Step
chosen_step state None inner = None
chosen_step state (Some t) None = None
chosen_step state (Some t) (Some i) = Some (step_by t i state)

abbrev pub step_at_place : TableData → WitnessData → List ℤ → Option PlaceData → Option Step
step_at_place table witness state None = None
step_at_place table witness state (Some p) = chosen_step state (transition_with table (planned_at p state)) (inner_with witness (planned_at p state))

-- the plan's step from a place in a state, where the place is listed
unfoldable pub plan_step : TableData → WitnessData → ℕ → List ℤ → Option Step
plan_step table witness place state = step_at_place table witness state (place_with witness place)

-- one step more, if there is one
abbrev pub further_by : Run → Option Step → Run
further_by run None = run
further_by run (Some s) = further run s

-- the plan's run of n steps from a place and a state
unfoldable pub plan_run : TableData → WitnessData → ℕ → List ℤ → ℕ → Run
plan_run table witness place state zero = still
plan_run table witness place state (suc n) =
    further_by (plan_run table witness place state n) (plan_step table witness (place_after place (plan_run table witness place state n)) (state_after state (plan_run table witness place state n)))
