-- What an accepted verdict promises, for any list of calls that a case was worked by, in any order and number, refused ones
-- included, each prove with any lawful method. Runs are over unlimited whole numbers; the list is in the order of time.
use Rattle.std.specs.Prelude.{◌≡◌, ℕ, suc, ◌≤◌, List, [], ◌∷◌, ◌++◌, ℤ, Some, Ok, Err}
use Rattle.rows.specs.declared.fault.Fault.{Fault}
use Rattle.rows.specs.declared.numbers.Numbers.{Numbers}
use Rattle.rows.specs.Faults.{Said}
use Rattle.methods.specs.Questions.{Meaning, Lawful, question}
use Rattle.records.specs.Records.{TableData, PlaceData, WitnessData}
use Rattle.semantics.specs.declared.obligation.Obligation.{Obligation}
use Rattle.semantics.specs.Obligations.{Listed, Poses, ObligationOf}
use Rattle.semantics.specs.Runs.{Step, Run, further, Initial, RunOn, EachStep, IsInner, Keeps, step_count, place_after, state_after}
use Rattle.semantics.specs.Vectors.{Holds}
use Rattle.cases.specs.Calls.{Call, Open, Admit, Begin, Advance, Strengthen, Restrict, Prove, Verdict, Unroll}
use Rattle.cases.specs.Limits.{least_rows}
use Rattle.cases.specs.Model.{Making, Model, Present}
use Rattle.cases.specs.Told.{open_told, admit_told, verdict_told}
use Rattle.cases.specs.Worked.{after, worked}

-- the model has a table and a witness
pub record Witnessed (m : Model) : Type 0 where
  pub table : TableData
  pub witness : WitnessData
  pub has_table : m.table ≡ Some table
  pub has_witness : m.witness ≡ Some witness

-- and a present place and state
pub record Placed (m : Model) : Type 0 where
  pub table : TableData
  pub witness : WitnessData
  pub present : Present
  pub has_table : m.table ≡ Some table
  pub has_witness : m.witness ≡ Some witness
  pub has_present : m.present ≡ Some present

-- a run from an initial state reaches the present place and state; for every n a run on from there makes n steps, each by
-- an inner transition, and the run for n + 1 is the run for n and one step more
pub record EndlessFrom (table : TableData) (witness : WitnessData) (p : Present) : Type 0 where
  pub initial : List ℤ
  pub is_initial : Initial table initial
  pub trace : Run
  pub trace_runs : RunOn table table.heading.start initial trace
  pub reaches_place : place_after table.heading.start trace ≡ p.place
  pub reaches_state : state_after initial trace ≡ p.state
  pub on : ℕ → Run
  pub on_runs : (n : ℕ) → RunOn table p.place p.state (on n)
  pub on_counts : (n : ℕ) → step_count (on n) ≡ n
  pub on_inner : (n : ℕ) → EachStep (IsInner witness) (on n)
  pub on_further : (n : ℕ) → (s : Step) × (on (suc n) ≡ further (on n) s)

-- one more step by an inner transition that keeps the restrictions
pub record Prolonged (table : TableData) (witness : WitnessData) (p : Present) (run : Run) : Type 0 where
  pub step : Step
  pub inner : IsInner witness step
  pub runs : RunOn table p.place p.state (further run step)
  pub keeps : Keeps witness (further run step)

-- every run on that keeps the restrictions has inner steps alone, and can be prolonged
abbrev pub ClosedFrom : TableData → WitnessData → Present → Type 0
ClosedFrom table witness p =
    (run : Run) → RunOn table p.place p.state run → Keeps witness run → EachStep (IsInner witness) run × Prolonged table witness p run

abbrev pub Endless : Model → Type 0
Endless m = (h : Placed m) × EndlessFrom h.table h.witness h.present

abbrev pub Closed : Model → Type 0
Closed m = (h : Placed m) × ClosedFrom h.table h.witness h.present

-- a call that is an open or an admit is refused
abbrev pub RefusedIfNew : Call → Model → Type 0
RefusedIfNew (Open bytes) m = (f : Fault) × (open_told m.making bytes ≡ Err f)
RefusedIfNew (Admit bytes) m = (f : Fault) × (admit_told m bytes ≡ Err f)
RefusedIfNew (Begin values) m = Unit {0}
RefusedIfNew (Advance n choices) m = Unit {0}
RefusedIfNew (Strengthen place numbers) m = Unit {0}
RefusedIfNew (Restrict n numbers) m = Unit {0}
RefusedIfNew (Prove meaning lawful o certificate rows) m = Unit {0}
RefusedIfNew Verdict m = Unit {0}
RefusedIfNew (Unroll n room) m = Unit {0}

-- so is every open and admit among some calls
abbrev pub Undisturbed : Model → List Call → Type 0
Undisturbed m [] = Unit {0}
Undisturbed m (c ∷ cs) = RefusedIfNew c m × Undisturbed (after c m) cs

-- an obligation stands shown: the calls are some calls, a prove on the obligation, and further calls. Where the prove was
-- made, the obligation existed, the sheet had enough rows and the method said yes to its facts and goal; and every later
-- open and admit was refused.
pub record StandsShown (making : Making) (calls : List Call) (o : Obligation) : Type 0 where
  pub earlier : List Call
  pub later : List Call
  pub meaning : Meaning
  pub lawful : Lawful meaning
  pub certificate : List ℕ
  pub rows : ℕ
  pub calls_are : calls ≡ earlier ++ (Prove meaning lawful o certificate rows ∷ later)
  pub then : Witnessed (worked making earlier)
  pub facts : List Numbers
  pub goal : Numbers
  pub posed : Poses then.table then.witness o facts goal
  pub enough : least_rows ≤ rows
  pub yes : meaning (question facts goal certificate rows) ≡ Ok tt
  pub undisturbed : Undisturbed (after (Prove meaning lawful o certificate rows) (worked making earlier)) later

-- there is a present state at a listed place, it meets the place's condition, and every obligation stands shown
pub record Ready (making : Making) (calls : List Call) : Type 0 where
  pub has : Placed (worked making calls)
  pub at : PlaceData
  pub listed : Listed has.witness has.present.place at
  pub holds : Holds has.present.state at.condition
  pub shown : (o : Obligation) → ObligationOf has.table has.witness o → StandsShown making calls o

-- what holds of the answer to a verdict after these calls
pub record Promise (making : Making) (calls : List Call) (said : Said) : Type 0 where
  pub endless : said ≡ Ok tt → Endless (worked making calls)
  pub closed : said ≡ Ok tt → Closed (worked making calls)
  pub only_ready : said ≡ Ok tt → Ready making calls
  pub ready_accepted : Ready making calls → said ≡ Ok tt

-- the guarantee
abbrev pub Guarantee : Type 0
Guarantee = (making : Making) (calls : List Call) → Promise making calls (verdict_told (worked making calls))
