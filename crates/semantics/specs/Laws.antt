-- What is proved of runs, plans and obligations, for any table and witness.
use Rattle.std.specs.Prelude.{◌≡◌, ℕ, suc, List, length, ℤ, Some}
use Rattle.rows.specs.declared.numbers.Numbers.{Numbers}
use Rattle.rows.specs.Shapes.{Meets}
use Rattle.records.specs.Limits.{most_values}
use Rattle.records.specs.Records.{TransitionData, TableData, PlaceData, InnerData, WitnessData, shape_of}
use Rattle.formats.specs.Valid.{ValidTable, ValidWitness}
use Rattle.semantics.specs.declared.obligation.Obligation.{Obligation}
use Rattle.semantics.specs.Enumerated.{posed, question_of, obligations_of}
use Rattle.semantics.specs.Goals.{after_update, with_choices}
use Rattle.semantics.specs.Obligations.{Listed, Poses, ObligationOf, Follows, AllHold}
use Rattle.semantics.specs.Plans.{plan_step, plan_run, choices_of}
use Rattle.semantics.specs.Runs.{Member, Step, IsStep, IsState, Run, place_after, state_after, RunOn, EachStep, IsInner, Keeps, KeepsAt, step_count, updated, further}
use Rattle.semantics.specs.Vectors.{Holds, at_rest, point_of}

-- a table, and a witness that fits it
pub record Fitting (table : TableData) (witness : WitnessData) : Type 0 where
  pub valid_table : ValidTable table
  pub valid_witness : ValidWitness table.transitions (shape_of table.heading) witness

-- the goal is met before the transition exactly where the row is met after it
pub record UpdateGoal (t : TransitionData) (row goal : Numbers) : Type 0 where
  pub carried : (point : List ℤ) → Meets point goal → Meets (at_rest (updated t point)) row
  pub needed : (point : List ℤ) → Meets (at_rest (updated t point)) row → Meets point goal

-- a state meets the goal exactly where it meets the row with the choices of the inner transition
pub record ChoiceGoal (i : InnerData) (row goal : Numbers) : Type 0 where
  pub carried : (state : List ℤ) → length state ≡ most_values → Meets (at_rest state) goal → Meets (point_of state (choices_of i state)) row
  pub needed : (state : List ℤ) → length state ≡ most_values → Meets (point_of state (choices_of i state)) row → Meets (at_rest state) goal

-- the questions and the list that compute agree with the relation
pub record Enumerates (table : TableData) (witness : WitnessData) : Type 0 where
  pub asks : (o : Obligation) (facts : List Numbers) (goal : Numbers) → question_of table witness o ≡ Some (posed facts goal) → Poses table witness o facts goal
  pub asked : (o : Obligation) (facts : List Numbers) (goal : Numbers) → Poses table witness o facts goal → question_of table witness o ≡ Some (posed facts goal)
  pub lists : (o : Obligation) → Member o (obligations_of table witness) → ObligationOf table witness o
  pub listed : (o : Obligation) → ObligationOf table witness o → Member o (obligations_of table witness)

-- a state at a listed place that meets the place's condition
pub record Within (table : TableData) (witness : WitnessData) (place : ℕ) (state : List ℤ) : Type 0 where
  pub at : PlaceData
  pub listed : Listed witness place at
  pub is_state : IsState table state
  pub holds : Holds state at.condition

-- the plan's step from a place and a state
pub record PlanStep (table : TableData) (witness : WitnessData) (place : ℕ) (state : List ℤ) : Type 0 where
  pub step : Step
  pub found : plan_step table witness place state ≡ Some step
  pub made : IsStep table step
  pub leaves : step.taken.start ≡ place
  pub begins : step.before ≡ state
  pub inner : IsInner witness step
  pub keeps : KeepsAt witness step

-- what the obligations say together: an inner step that keeps the restrictions leads from one condition to the next, no
-- other step can be made, and the plan's step can be made and keeps them
pub record Sustained (table : TableData) (witness : WitnessData) : Type 0 where
  pub carried : (s : Step) → IsStep table s → Within table witness s.taken.start s.before → IsInner witness s → KeepsAt witness s → Within table witness s.taken.target s.after
  pub closed : (s : Step) → IsStep table s → Within table witness s.taken.start s.before → IsInner witness s
  pub planned : (place : ℕ) (state : List ℤ) → Within table witness place state → PlanStep table witness place state

-- the plan's run of n steps, and that the run of one step more is that run and a step
pub record PlanRun (table : TableData) (witness : WitnessData) (place : ℕ) (state : List ℤ) (n : ℕ) : Type 0 where
  pub is_run : RunOn table place state (plan_run table witness place state n)
  pub counted : step_count (plan_run table witness place state n) ≡ n
  pub inner : EachStep (IsInner witness) (plan_run table witness place state n)
  pub keeps : Keeps witness (plan_run table witness place state n)
  pub next : Step
  pub prolonged : plan_run table witness place state (suc n) ≡ further (plan_run table witness place state n) next

-- a run that keeps the restrictions: all its steps are inner, and at its end the plan's step can be made and keeps them
pub record ClosedRun (table : TableData) (witness : WitnessData) (place : ℕ) (state : List ℤ) (run : Run) : Type 0 where
  pub inner : EachStep (IsInner witness) run
  pub ends : Within table witness (place_after place run) (state_after state run)
  pub more : PlanStep table witness (place_after place run) (state_after state run)

-- the laws: the goals of obligations are carried by updates and choices
abbrev pub UpdatesCarry : Type 0
UpdatesCarry = (t : TransitionData) (row : Numbers) → UpdateGoal t row (after_update t row)

abbrev pub ChoicesCarry : Type 0
ChoicesCarry = (i : InnerData) (row : Numbers) → ChoiceGoal i row (with_choices i row)

-- what follows from facts follows from more of them
abbrev pub FactsAdd : Type 0
FactsAdd = (facts more : List Numbers) (goal : Numbers) → Follows facts goal → ((fact : Numbers) → Member fact facts → Member fact more) → Follows more goal

-- for a table and a witness that fits it: the obligations that are computed are those of the relation; where they all
-- hold, they sustain the witness, the plan runs on for any number of steps, and every run that keeps the restrictions is
-- closed
abbrev pub ObligationsAgree : Type 0
ObligationsAgree = (table : TableData) (witness : WitnessData) → Fitting table witness → Enumerates table witness

abbrev pub ObligationsSustain : Type 0
ObligationsSustain = (table : TableData) (witness : WitnessData) → Fitting table witness → AllHold table witness → Sustained table witness

abbrev pub PlansRun : Type 0
PlansRun =
    (table : TableData) (witness : WitnessData) → Fitting table witness → AllHold table witness → (place : ℕ) (state : List ℤ) → Within table witness place state → (n : ℕ) → PlanRun table witness place state n

abbrev pub RunsClosed : Type 0
RunsClosed =
    (table : TableData) (witness : WitnessData) → Fitting table witness → AllHold table witness → (place : ℕ) (state : List ℤ) → Within table witness place state → (run : Run) → RunOn table place state run → Keeps witness run → ClosedRun table witness place state run
