-- Worked examples of an update, a plan and the obligations of a plan, over two values.
use Rattle.std.specs.Prelude.{◌≡◌, ℕ, List, [], ◌∷◌, replicate, ℤ, pos, negsuc, Some}
use Rattle.rows.specs.declared.numbers.Numbers.{Numbers}
use Rattle.records.specs.Records.{TransitionData, TableData, EntryData, PlaceData, InnerData, WitnessData}
use Rattle.semantics.specs.declared.obligation.Obligation.TheVariants.{Guard, Exit}
use Rattle.semantics.specs.Enumerated.{posed, question_of}
use Rattle.semantics.specs.Obligations.{ObligationOf}
use Rattle.semantics.specs.Plans.{planned_at}
use Rattle.semantics.specs.Runs.{updated}
use Rattle.semantics.specs.Vectors.{at_rest}

-- a row or an expression over the two values, and a state
abbrev pub over_two : ℤ → ℤ → ℤ → Numbers
over_two a b bound = record { coefficients = a ∷ b ∷ replicate 6 (pos 0); bound = bound }

abbrev pub state_of : ℤ → ℤ → List ℤ
state_of a b = a ∷ b ∷ replicate 4 (pos 0)

-- the first value is at most 5, at most 9, and the opposites: at least 6, at least 10
abbrev pub at_most_five : Numbers
at_most_five = over_two (pos 1) (pos 0) (pos 5)

abbrev pub at_most_nine : Numbers
at_most_nine = over_two (pos 1) (pos 0) (pos 9)

abbrev pub at_least_six : Numbers
at_least_six = over_two (negsuc 0) (pos 0) (negsuc 5)

abbrev pub at_least_ten : Numbers
at_least_ten = over_two (negsuc 0) (pos 0) (negsuc 9)

-- the second value is not negative
abbrev pub not_negative : Numbers
not_negative = over_two (pos 0) (negsuc 0) (pos 0)

-- a transition at place 1 that exchanges the two values
abbrev pub exchanging : ℕ → TransitionData
exchanging number = record { number = number; start = 1; target = 1; guard = not_negative ∷ []; updates = over_two (pos 0) (pos 1) (pos 0) ∷ over_two (pos 1) (pos 0) (pos 0) ∷ [] }

abbrev pub sample_table : TableData
sample_table = record { heading = record { values = 2; choices = 0; start = 1; initial = [] }; transitions = exchanging 1 ∷ exchanging 2 ∷ exchanging 3 ∷ exchanging 4 ∷ [] }

-- a witness: place 1 has a plan with two tests; the first three transitions are inner
abbrev pub sample_entry : ℕ → Numbers → EntryData
sample_entry number test = record { transition = number; test = test }

abbrev pub sample_place : PlaceData
sample_place = record { number = 1; condition = not_negative ∷ []; tested = sample_entry 1 at_most_five ∷ sample_entry 2 at_most_nine ∷ []; last = 3 }

abbrev pub sample_inner : ℕ → InnerData
sample_inner number = record { number = number; restrictions = []; choices = [] }

abbrev pub sample_witness : WitnessData
sample_witness = record { places = sample_place ∷ []; inners = sample_inner 1 ∷ sample_inner 2 ∷ sample_inner 3 ∷ [] }

pub record WorkedSteps : Type 0 where
  -- both new values come from the old ones
  pub exchanged : updated (exchanging 1) (at_rest (state_of (pos 1) (pos 2))) ≡ state_of (pos 2) (pos 1)
  -- where both tests are met the first counts, then the second, then the last entry
  pub first_met : planned_at sample_place (state_of (pos 5) (pos 0)) ≡ 1
  pub second_met : planned_at sample_place (state_of (pos 6) (pos 0)) ≡ 2
  pub none_met : planned_at sample_place (state_of (pos 10) (pos 0)) ≡ 3
  -- the facts of a guard obligation: the condition, the opposites of the tests before, and the entry's own test
  pub first_asked : question_of sample_table sample_witness (Guard 1 0 0) ≡ Some (posed (not_negative ∷ at_most_five ∷ []) not_negative)
  pub second_asked : question_of sample_table sample_witness (Guard 1 1 0) ≡ Some (posed (not_negative ∷ at_least_six ∷ at_most_nine ∷ []) not_negative)
  pub last_asked : question_of sample_table sample_witness (Guard 1 2 0) ≡ Some (posed (not_negative ∷ at_least_six ∷ at_least_ten ∷ []) not_negative)
  -- a transition that is not inner has an exit obligation, one that is inner has none
  pub exit : ObligationOf sample_table sample_witness (Exit 4)
  pub no_exit : ObligationOf sample_table sample_witness (Exit 1) → ⊥
