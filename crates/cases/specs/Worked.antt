-- What each call does to the model, what it answers, and the model after a list of calls. A call that is refused does
-- nothing.
use Rattle.std.specs.Prelude.{ℕ, ◌+◌, cond, List, [], ◌∷◌, ◌++◌, ℤ, Some, None, Ok, Err, Option, ◌==◌}
use Rattle.rows.specs.declared.numbers.Numbers.{Numbers}
use Rattle.rows.specs.Faults.{Said}
use Rattle.records.specs.Limits.{most_values}
use Rattle.records.specs.Records.{TransitionData, TableData, PlaceData, InnerData, WitnessData, shape_of}
use Rattle.records.specs.Slots.{over_values}
use Rattle.formats.specs.Pieces.{giving}
use Rattle.formats.specs.Tables.{table_at}
use Rattle.formats.specs.Witnesses.{witness_at}
use Rattle.semantics.specs.declared.obligation.Obligation.{Obligation}
use Rattle.semantics.specs.Plans.{transition_with}
use Rattle.semantics.specs.Runs.{updated}
use Rattle.semantics.specs.Vectors.{padded}
use Rattle.cases.specs.Calls.{Call, Open, Admit, Begin, Advance, Strengthen, Restrict, Prove, Verdict, Unroll, Reply, told, ran}
use Rattle.cases.specs.Model.{Making, Model, Present, empty, none_shown, with_shown}
use Rattle.cases.specs.Told.{open_told, admit_told, begin_told, starting_at, chosen_point, advance_told, added_row, strengthen_told, restrict_told, prove_told, verdict_told, unroll_tests, unrolled}

-- the new model where the call was not refused
abbrev pub done : Said → Model → Model → Model
done (Ok u) new old = new
done (Err f) new old = old

-- open takes a table and clears the rest
abbrev pub opened : Model → List ℕ → Model
opened m bytes = record { making = m.making; table = Some (table_at bytes); witness = None; present = None; steps = 0; shown = none_shown }

-- admit takes a witness and clears only what was shown
abbrev pub witness_for : Option TableData → List ℕ → Option WitnessData
witness_for None bytes = None
witness_for (Some table) bytes = Some (witness_at (shape_of table.heading) bytes)

abbrev pub admitted : Model → List ℕ → Model
admitted m bytes = record { making = m.making; table = m.table; witness = witness_for m.table bytes; present = m.present; steps = m.steps; shown = none_shown }

-- begin sets a first state at the start place
abbrev pub first_state : Option TableData → List ℤ → Option Present
first_state None values = None
first_state (Some table) values = Some (record { place = table.heading.start; state = padded most_values values })

abbrev pub begun : Model → List ℤ → Model
begun m values = record { making = m.making; table = m.table; witness = m.witness; present = first_state m.table values; steps = 0; shown = m.shown }

-- advance makes one step and counts it
abbrev pub stepped : Option TransitionData → List ℤ → List ℤ → Option Present
stepped None state choices = None
stepped (Some t) state choices = Some (record { place = t.target; state = updated t (chosen_point state choices) })

abbrev pub next_present : Option TableData → Option Present → ℕ → List ℤ → Option Present
next_present None present n choices = None
next_present (Some table) None n choices = None
next_present (Some table) (Some p) n choices = stepped (starting_at p.place (transition_with table n)) p.state choices

abbrev pub advanced : Model → ℕ → List ℤ → Model
advanced m n choices = record { making = m.making; table = m.table; witness = m.witness; present = next_present m.table m.present n choices; steps = m.steps + 1; shown = m.shown }

-- the first record with a number, changed
abbrev pub changed_first : {A : Type 0} → (A → ℕ) → ℕ → (A → A) → List A → List A
changed_first num n f [] = []
changed_first num n f (x ∷ xs) = cond (num x == n) (f x ∷ xs) (x ∷ changed_first num n f xs)

-- strengthen adds a condition row at the end, restrict a restriction row
abbrev pub strengthened_place : Numbers → PlaceData → PlaceData
strengthened_place row p = record { number = p.number; condition = p.condition ++ row ∷ []; tested = p.tested; last = p.last }

abbrev pub restricted_inner : Numbers → InnerData → InnerData
restricted_inner row i = record { number = i.number; restrictions = i.restrictions ++ row ∷ []; choices = i.choices }

abbrev pub with_condition : Option TableData → Option WitnessData → ℕ → List ℤ → Option WitnessData
with_condition None witness place numbers = None
with_condition (Some table) None place numbers = None
with_condition (Some table) (Some w) place numbers =
    Some (record { places = changed_first (λ p. p.number) place (strengthened_place (added_row (over_values (shape_of table.heading)) numbers)) w.places; inners = w.inners })

abbrev pub with_restriction : Option TableData → Option WitnessData → ℕ → List ℤ → Option WitnessData
with_restriction None witness n numbers = None
with_restriction (Some table) None n numbers = None
with_restriction (Some table) (Some w) n numbers =
    Some (record { places = w.places; inners = changed_first (λ i. i.number) n (restricted_inner (added_row (shape_of table.heading) numbers)) w.inners })

abbrev pub with_witness : Model → Option WitnessData → Model
with_witness m witness = record { making = m.making; table = m.table; witness = witness; present = m.present; steps = m.steps; shown = m.shown }

-- prove marks the obligation
abbrev pub marked : Model → Obligation → Model
marked m o = record { making = m.making; table = m.table; witness = m.witness; present = m.present; steps = m.steps; shown = with_shown o m.shown }

unfoldable pub after : Call → Model → Model
after (Open bytes) m = done (open_told m.making bytes) (opened m bytes) m
after (Admit bytes) m = done (admit_told m bytes) (admitted m bytes) m
after (Begin values) m = done (begin_told m values) (begun m values) m
after (Advance n choices) m = done (advance_told m n choices) (advanced m n choices) m
after (Strengthen place numbers) m = done (strengthen_told m place numbers) (with_witness m (with_condition m.table m.witness place numbers)) m
after (Restrict n numbers) m = done (restrict_told m n numbers) (with_witness m (with_restriction m.table m.witness n numbers)) m
after (Prove meaning lawful o certificate rows) m = done (prove_told m meaning o certificate rows) (marked m o) m
after Verdict m = m
after (Unroll n room) m = m

unfoldable pub answer : Call → Model → Reply
answer (Open bytes) m = told (open_told m.making bytes)
answer (Admit bytes) m = told (admit_told m bytes)
answer (Begin values) m = told (begin_told m values)
answer (Advance n choices) m = told (advance_told m n choices)
answer (Strengthen place numbers) m = told (strengthen_told m place numbers)
answer (Restrict n numbers) m = told (restrict_told m n numbers)
answer (Prove meaning lawful o certificate rows) m = told (prove_told m meaning o certificate rows)
answer Verdict m = told (verdict_told m)
answer (Unroll n room) m = ran (giving (unroll_tests m n room) (unrolled m n))

-- the model after calls, made in this order
abbrev pub worked_from : Model → List Call → Model
worked_from m [] = m
worked_from m (c ∷ cs) = worked_from (after c m) cs

abbrev pub worked : Making → List Call → Model
worked making calls = worked_from (empty making) calls
