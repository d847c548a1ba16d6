-- Where a promise fails: small tables, witnesses and calls of which a promise does not hold, so that it says something. Were
-- a part of a promise left out, one of these would no longer be so.
use Rattle.std.specs.Prelude.{◌≡◌, ℕ, List, [], ◌∷◌, ◌++◌, replicate, ℤ, pos, negsuc}
use Rattle.rows.specs.declared.numbers.Numbers.{Numbers}
use Rattle.records.specs.Records.{TransitionData, TableData, InnerData, WitnessData}
use Rattle.formats.specs.Samples.{sample_table_bytes, sample_witness_bytes}
use Rattle.semantics.specs.declared.obligation.Obligation.TheVariants.{Consecution}
use Rattle.semantics.specs.Goals.{impossible}
use Rattle.semantics.specs.Runs.{Run, RunOn, EachStep, IsInner, step_count}
use Rattle.cases.specs.Calls.{Call, Open, Admit}
use Rattle.cases.specs.Dossiers.{dossier_making}
use Rattle.cases.specs.Model.{Present}
use Rattle.cases.specs.Promises.{EndlessFrom, ClosedFrom, StandsShown}
use Rattle.cases.specs.Samples.{weighed, first_weights, prove_call}

-- a row over the first value, and the choice as an expression
abbrev pub first_only : ℤ → ℤ → Numbers
first_only c b = record { coefficients = c ∷ replicate 7 (pos 0); bound = b }

abbrev pub the_choice : Numbers
the_choice = record { coefficients = replicate 6 (pos 0) ++ pos 1 ∷ pos 0 ∷ []; bound = pos 0 }

-- the first value as it is, and less one
abbrev pub unchanged : Numbers
unchanged = first_only (pos 1) (pos 0)

abbrev pub less_one : Numbers
less_one = first_only (pos 1) (negsuc 0)

-- the rows that ask for a first value of 0, and of 1 at least
abbrev pub nought : List Numbers
nought = first_only (pos 1) (pos 0) ∷ first_only (negsuc 0) (pos 0) ∷ []

abbrev pub positive : List Numbers
positive = first_only (negsuc 0) (negsuc 0) ∷ []

-- a transition of a table with one value: its number, the places it leaves and reaches, its guard and its update
abbrev pub move : ℕ → ℕ → ℕ → List Numbers → Numbers → TransitionData
move n from to guard update = record { number = n; start = from; target = to; guard = guard; updates = update ∷ [] }

-- a table with one value, one choice and start place 1
abbrev pub table_with : List Numbers → List TransitionData → TableData
table_with initial transitions = record { heading = record { values = 1; choices = 1; start = 1; initial = initial }; transitions = transitions }

-- a transition that is inner, with these restriction rows; its choice is 0
abbrev pub inner_by : List Numbers → ℕ → InnerData
inner_by restrictions n = record { number = n; restrictions = restrictions; choices = first_only (pos 0) (pos 0) ∷ [] }

-- a witness with these inner transitions; no promise on runs looks at its places
abbrev pub inners_are : List InnerData → WitnessData
inners_are inners = record { places = []; inners = inners }

-- a place with a first value, and place 1 with one
abbrev pub place_with : ℕ → ℤ → Present
place_with place a = record { place = place; state = a ∷ replicate 5 (pos 0) }

abbrev pub at : ℤ → Present
at a = place_with 1 a

-- a transition that goes round at place 1 and changes nothing, another, and one at place 2
abbrev pub round : TransitionData
round = move 1 1 1 [] unchanged

abbrev pub another : TransitionData
another = move 2 1 1 [] unchanged

abbrev pub elsewhere : TransitionData
elsewhere = move 2 2 2 [] unchanged

-- the first transition is inner, and the first two are
abbrev pub round_inner : WitnessData
round_inner = inners_are (inner_by [] 1 ∷ [])

abbrev pub both_inner : WitnessData
both_inner = inners_are (inner_by [] 1 ∷ inner_by [] 2 ∷ [])

-- a table that sets its value to any number and counts down from there as long as the value is positive
abbrev pub setting : TransitionData
setting = move 1 1 2 [] the_choice

abbrev pub lowering : TransitionData
lowering = move 2 2 2 positive less_one

abbrev pub countdown : TableData
countdown = table_with [] (setting ∷ lowering ∷ [])

-- a run of so many inner steps
pub record InnerRun (table : TableData) (witness : WitnessData) (p : Present) (n : ℕ) : Type 0 where
  pub run : Run
  pub runs : RunOn table p.place p.state run
  pub counted : step_count run ≡ n
  pub inner : EachStep (IsInner witness) run

-- the calls of the sample up to a prove, and an admit more
abbrev pub shown_once : List Call
shown_once = Open sample_table_bytes ∷ Admit sample_witness_bytes ∷ prove_call (weighed (Consecution 1 0) first_weights) ∷ []

abbrev pub shown_and_cleared : List Call
shown_and_cleared = shown_once ++ Admit sample_witness_bytes ∷ []

-- what does not hold, each beside what does
pub record SharpPromises : Type 0 where
  -- going round is endless from a first value of 0
  pub goes_round : EndlessFrom (table_with nought (round ∷ [])) round_inner (at (pos 0))
  -- not where no state is initial
  pub no_beginning : EndlessFrom (table_with (impossible ∷ []) (round ∷ [])) round_inner (at (pos 0)) → ⊥
  -- nor from a state that no run from an initial one reaches
  pub unreached : EndlessFrom (table_with nought (round ∷ [])) round_inner (at (pos 1)) → ⊥
  -- nor at a place that none reaches
  pub other_place : EndlessFrom (table_with nought (round ∷ elsewhere ∷ [])) both_inner (place_with 2 (pos 0)) → ⊥
  -- nor where the transition is not inner
  pub none_inner : EndlessFrom (table_with nought (round ∷ [])) (inners_are []) (at (pos 0)) → ⊥
  -- the countdown has runs of every number of inner steps, but no endless one
  pub any_number : (n : ℕ) → InnerRun countdown both_inner (at (pos 0)) n
  pub none_endless : EndlessFrom countdown both_inner (at (pos 0)) → ⊥
  -- a transition that is not inner can be taken, though one that is can still be taken after it: not closed
  pub other_taken : ClosedFrom (table_with nought (round ∷ another ∷ [])) round_inner (at (pos 0)) → ⊥
  -- there is no transition: not closed
  pub halts : ClosedFrom (table_with nought []) round_inner (at (pos 0)) → ⊥
  -- no inner step keeps the restriction: not closed
  pub over_restricted : ClosedFrom (table_with nought (round ∷ [])) (inners_are (inner_by (impossible ∷ []) 1 ∷ [])) (at (pos 0)) → ⊥
  -- an obligation that was shown stands shown, but not after an admit that succeeded
  pub stands : StandsShown dossier_making shown_once (Consecution 1 0)
  pub cleared : StandsShown dossier_making shown_and_cleared (Consecution 1 0) → ⊥
