-- What a table can do: initial states, steps and finite runs over unlimited whole numbers. Written without a look at the
-- code, and nothing is assumed of the table.
use Rattle.std.specs.Prelude.{◌≡◌, ℕ, suc, ◌⊎◌, List, [], ◌∷◌, map, ℤ}
use Rattle.rows.specs.declared.numbers.Numbers.{Numbers}
use Rattle.rows.specs.Shapes.{MeetsAll, value_of}
use Rattle.records.specs.Limits.{most_values, most_choices}
use Rattle.records.specs.Records.{TransitionData, TableData, InnerData, WitnessData}
use Rattle.semantics.specs.Vectors.{padded, Filled, point_of, Holds}

-- x is one of the elements
abbrev pub Member : {X : Type 0} → X → List X → Type 0
Member x [] = ⊥
Member x (y ∷ ys) = (y ≡ x) ⊎ Member x ys

-- a state: a number for each value of the table, zeros behind them
abbrev pub IsState : TableData → List ℤ → Type 0
IsState table state = Filled most_values table.heading.values state

-- a state that meets every initial row
abbrev pub Initial : TableData → List ℤ → Type 0
Initial table state = IsState table state × Holds state table.heading.initial

-- an expression's value at a point
abbrev pub value_at : List ℤ → Numbers → ℤ
value_at point e = value_of e.coefficients e.bound point

-- the values after a transition, each worked out of the old values and the choices
abbrev pub updated : TransitionData → List ℤ → List ℤ
updated t point = padded most_values (map (value_at point) t.updates)

-- a step: the transition that is taken, the choices, and the state before and after
pub record Step : Type 0 where
  pub taken : TransitionData
  pub choices : List ℤ
  pub before : List ℤ
  pub after : List ℤ

-- the table can make the step: the transition is one of its own, its guard is met, the choices are any whole numbers
pub record IsStep (table : TableData) (s : Step) : Type 0 where
  pub known : Member s.taken table.transitions
  pub guard : Holds s.before s.taken.guard
  pub chosen : Filled most_choices table.heading.choices s.choices
  pub result : s.after ≡ updated s.taken (point_of s.before s.choices)

-- a finite run: no step at all, or a run and one step more
pub data Run : Type 0 where
  still : Run
  further : Run → Step → Run

abbrev pub step_count : Run → ℕ
step_count still = 0
step_count (further run s) = suc (step_count run)

-- where a run from a place and a state ends
abbrev pub place_after : ℕ → Run → ℕ
place_after place still = place
place_after place (further run s) = s.taken.target

abbrev pub state_after : List ℤ → Run → List ℤ
state_after state still = state
state_after state (further run s) = s.after

-- a run on from a place and a state: the table can make each step, and each begins where the one before ended
abbrev pub RunOn : TableData → ℕ → List ℤ → Run → Type 0
RunOn table place state still = Unit {0}
RunOn table place state (further run s) =
    RunOn table place state run × IsStep table s × (s.taken.start ≡ place_after place run) × (s.before ≡ state_after state run)

-- each step of a run
abbrev pub EachStep : (Step → Type 0) → Run → Type 0
EachStep P still = Unit {0}
EachStep P (further run s) = EachStep P run × P s

-- the witness declares the transition with a number inner, by this record
abbrev pub Declared : WitnessData → ℕ → InnerData → Type 0
Declared witness n i = Member i witness.inners × (i.number ≡ n)

-- a step by an inner transition
abbrev pub IsInner : WitnessData → Step → Type 0
IsInner witness s = (i : InnerData) × Declared witness s.taken.number i

-- a step that keeps the restrictions: where its transition is inner, the old values and the choices meet the restriction
-- rows; nothing is asked of any other step
abbrev pub KeepsAt : WitnessData → Step → Type 0
KeepsAt witness s = (i : InnerData) → Declared witness s.taken.number i → MeetsAll (point_of s.before s.choices) i.restrictions

abbrev pub Keeps : WitnessData → Run → Type 0
Keeps witness run = EachStep (KeepsAt witness) run
