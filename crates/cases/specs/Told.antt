-- What each call answers. A call makes its tests in rising number of their faults; what a call does to the model stands in
-- a file of its own.
use Rattle.std.specs.Prelude.{ℕ, zero, suc, ◌+◌, ◌*◌, Bool, true, cond, ◌&&◌, List, [], ◌∷◌, map, length, take, ℤ, pos, Some, None, Ok, Err, Option, ◌==◌, nat_le, nat_lt, slice_index_or}
use Rattle.rows.specs.declared.fault.Fault.{Fault}
use Rattle.rows.specs.declared.fault.FaultKind.{FaultKind}
use Rattle.rows.specs.declared.fault.FaultKind.TheVariants.{TableVersion, WitnessVersion, AdmitWithoutTable, BeginWithoutTable, BeginValues, InitialRowUnmet, AdvanceWithoutState, AdvanceTransition, AdvanceChoices, GuardRowUnmet, NewValueTooLarge, StepsExhausted, AddWithoutWitness, AddToUnknown, AddedNumbers, AddedRowsFull, ProveWithoutWitness, NoSuchObligation, SheetTooShort, VerdictWithoutTable, VerdictWithoutWitness, VerdictWithoutState, PlaceUnlisted, ConditionRowUnmet, ConsecutionOpen, RestrictionOpen, GuardOpen, ExitOpen, UnrollNotAccepted, UnrollTooLong, UnrollTableTooShort}
use Rattle.rows.specs.declared.limits.Limit.TheVariants.{WrittenNumber, StateValue}
use Rattle.rows.specs.declared.numbers.Numbers.{Numbers}
use Rattle.rows.specs.Faults.{Said, fault_of, check, unless_found, ◌and_then◌}
use Rattle.rows.specs.Limits.{columns, magnitude_of, within}
use Rattle.methods.specs.Questions.{Meaning, question}
use Rattle.records.specs.declared.shape.Shape.{Shape}
use Rattle.records.specs.Limits.{most_values, most_choices, most_conditions, most_restrictions}
use Rattle.records.specs.Records.{TransitionData, TableData, WitnessData, shape_of}
use Rattle.records.specs.Slots.{over_values, slot_of}
use Rattle.formats.specs.Pieces.{each, fault_at}
use Rattle.formats.specs.Tables.{open_says}
use Rattle.formats.specs.Witnesses.{witness_says}
use Rattle.semantics.specs.declared.obligation.Obligation.{Obligation}
use Rattle.semantics.specs.declared.obligation.Obligation.TheVariants.{Consecution, Restriction, Guard, Exit}
use Rattle.semantics.specs.Enumerated.{question_of, obligations_of}
use Rattle.semantics.specs.Plans.{first_unmet, transition_with, inner_with, place_with, plan_step}
use Rattle.semantics.specs.Runs.{Step, updated}
use Rattle.semantics.specs.Vectors.{padded, point_of, at_rest}
use Rattle.cases.specs.Calls.{Unrolled}
use Rattle.cases.specs.Limits.{most_steps, least_rows, most_unrolled}
use Rattle.cases.specs.Model.{Making, Model, Present}

-- what is there is tested further; where it is missing, that is the fault
abbrev pub needed : {A : Type 0} → Option A → Fault → (A → Said) → Said
needed None f next = Err f
needed (Some x) f next = next x

-- a fault that names nothing but itself
abbrev pub bare : FaultKind → Fault
bare kind = fault_of kind 0 0 0

-- each number lies within a limit
abbrev pub all_within : ℕ → List ℤ → Bool
all_within most [] = true
all_within most (z ∷ zs) = within most z && all_within most zs

-- so many numbers, each within a limit
abbrev pub numbers_fit : ℕ → ℕ → List ℤ → Bool
numbers_fit most n numbers = length numbers == n && all_within most numbers

-- each number is one that a byte holds. A list with another is no byte string: no call is made with one, and it counts
-- as one without a version.
abbrev pub are_bytes : List ℕ → Bool
are_bytes [] = true
are_bytes (b ∷ bs) = nat_lt b 256 && are_bytes bs

-- open
unfoldable pub open_told : Making → List ℕ → Said
open_told making bytes =
    cond (are_bytes bytes) (open_says making.transitions making.places making.inners bytes) (Err (fault_at TableVersion 0))

-- admit, for a table
abbrev pub admit_for : List ℕ → TableData → Said
admit_for bytes table = cond (are_bytes bytes) (witness_says table.transitions (shape_of table.heading) bytes) (Err (fault_at WitnessVersion 0))

unfoldable pub admit_told : Model → List ℕ → Said
admit_told m bytes = needed m.table (bare AdmitWithoutTable) (admit_for bytes)

-- begin: the values of the first state
abbrev pub begin_for : List ℤ → TableData → Said
begin_for values table =
    check (numbers_fit (magnitude_of StateValue) table.heading.values values) (bare BeginValues)
    and_then unless_found InitialRowUnmet (first_unmet (at_rest (padded most_values values)) table.heading.initial)

unfoldable pub begin_told : Model → List ℤ → Said
begin_told m values = needed m.table (bare BeginWithoutTable) (begin_for values)

-- advance: a transition that starts at the present place, and choices
abbrev pub starting_at : ℕ → Option TransitionData → Option TransitionData
starting_at place None = None
starting_at place (Some t) = cond (t.start == place) (Some t) None

-- the point of a state and a caller's choices
abbrev pub chosen_point : List ℤ → List ℤ → List ℤ
chosen_point state choices = point_of state (padded most_choices choices)

abbrev pub advance_by : ℕ → ℕ → List ℤ → List ℤ → TransitionData → Said
advance_by k steps choices state t =
    check (numbers_fit (magnitude_of StateValue) k choices) (bare AdvanceChoices)
    and_then unless_found GuardRowUnmet (first_unmet (at_rest state) t.guard)
    and_then check (all_within (magnitude_of StateValue) (updated t (chosen_point state choices))) (bare NewValueTooLarge)
    and_then check (nat_lt steps most_steps) (bare StepsExhausted)

unfoldable pub advance_told : Model → ℕ → List ℤ → Said
advance_told m n choices =
    needed m.present (bare AdvanceWithoutState) (λ p.
    needed m.table (bare AdvanceWithoutState) (λ table.
    needed (starting_at p.place (transition_with table n)) (bare AdvanceTransition) (λ t.
    advance_by table.heading.choices m.steps choices p.state t)))

-- strengthen and restrict: the row of a caller's numbers, by the shape of its columns
abbrev pub slotted : List ℤ → Option ℕ → ℤ
slotted numbers None = pos 0
slotted numbers (Some slot) = slice_index_or numbers slot (pos 0)

abbrev pub added_row : Shape → List ℤ → Numbers
added_row shape numbers = record {
  coefficients = each (λ k. slotted numbers (slot_of shape k)) columns;
  bound = slotted numbers (slot_of shape columns);
}

-- the numbers fit, and there is room for one row more
abbrev pub add_told : Shape → ℕ → List Numbers → List ℤ → Said
add_told shape most rows numbers =
    check (numbers_fit (magnitude_of WrittenNumber) (shape.values + shape.choices + 1) numbers) (bare AddedNumbers)
    and_then check (nat_lt (length rows) most) (bare AddedRowsFull)

unfoldable pub strengthen_told : Model → ℕ → List ℤ → Said
strengthen_told m place numbers =
    needed m.witness (bare AddWithoutWitness) (λ witness.
    needed m.table (bare AddWithoutWitness) (λ table.
    needed (place_with witness place) (bare AddToUnknown) (λ p.
    add_told (over_values (shape_of table.heading)) most_conditions p.condition numbers)))

unfoldable pub restrict_told : Model → ℕ → List ℤ → Said
restrict_told m n numbers =
    needed m.witness (bare AddWithoutWitness) (λ witness.
    needed m.table (bare AddWithoutWitness) (λ table.
    needed (inner_with witness n) (bare AddToUnknown) (λ i.
    add_told (shape_of table.heading) most_restrictions i.restrictions numbers)))

-- prove: the obligation's question is put to the method
unfoldable pub prove_told : Model → Meaning → Obligation → List ℕ → ℕ → Said
prove_told m meaning o certificate rows =
    needed m.witness (bare ProveWithoutWitness) (λ witness.
    needed m.table (bare ProveWithoutWitness) (λ table.
    needed (question_of table witness o) (bare NoSuchObligation) (λ q.
    check (nat_le least_rows rows) (bare SheetTooShort)
    and_then meaning (question q.facts q.goal certificate rows))))

-- verdict: accepted, or the first failure
abbrev pub condition_told : ℕ → Option ℕ → Said
condition_told place None = Ok tt
condition_told place (Some r) = Err (fault_of ConditionRowUnmet place 0 r)

-- an obligation that is not shown
abbrev pub open_fault : Obligation → Fault
open_fault (Consecution n r) = fault_of ConsecutionOpen n 0 r
open_fault (Restriction n r) = fault_of RestrictionOpen n 0 r
open_fault (Guard place e r) = fault_of GuardOpen place e r
open_fault (Exit n) = fault_of ExitOpen n 0 0

abbrev pub all_shown : (Obligation → Bool) → List Obligation → Said
all_shown shown [] = Ok tt
all_shown shown (o ∷ os) = cond (shown o) (all_shown shown os) (Err (open_fault o))

abbrev pub judged : Model → TableData → WitnessData → Present → Said
judged m table witness p =
    needed (place_with witness p.place) (fault_of PlaceUnlisted p.place 0 0) (λ l.
    condition_told p.place (first_unmet (at_rest p.state) l.condition)
    and_then all_shown m.shown (obligations_of table witness))

unfoldable pub verdict_told : Model → Said
verdict_told m =
    needed m.table (bare VerdictWithoutTable) (λ table.
    needed m.witness (bare VerdictWithoutWitness) (λ witness.
    needed m.present (bare VerdictWithoutState) (judged m table witness)))

-- unroll: the states after the plan's steps, as long as their choices and values lie within the limit, n of them at most
abbrev pub step_within : Step → Bool
step_within s = all_within (magnitude_of StateValue) s.choices && all_within (magnitude_of StateValue) s.after

abbrev pub where_within : Option Step → (Step → List (List ℤ)) → List (List ℤ)
where_within None next = []
where_within (Some s) next = cond (step_within s) (next s) []

unfoldable pub walked : TableData → WitnessData → ℕ → ℕ → List ℤ → List (List ℤ)
walked table witness zero place state = []
walked table witness (suc n) place state =
    where_within (plan_step table witness place state) (λ s. s.after ∷ walked table witness n s.taken.target s.after)

abbrev pub unrolled_from : TableData → WitnessData → ℕ → Present → Unrolled
unrolled_from table witness n p = record {
  count = length (walked table witness n p.place p.state);
  states = map (take table.heading.values) (p.state ∷ walked table witness n p.place p.state);
}

-- a verdict that is not accepted, whatever its fault
abbrev pub accepted_only : Said → Said
accepted_only (Ok u) = Ok u
accepted_only (Err f) = Err (bare UnrollNotAccepted)

abbrev pub room_for : Option TableData → ℕ → ℕ
room_for None n = 0
room_for (Some table) n = (n + 1) * table.heading.values

unfoldable pub unroll_tests : Model → ℕ → ℕ → Said
unroll_tests m n room =
    accepted_only (verdict_told m)
    and_then check (nat_le n most_unrolled) (bare UnrollTooLong)
    and_then check (nat_le (room_for m.table n) room) (bare UnrollTableTooShort)

-- nothing, where a part is missing; then the verdict was not accepted
abbrev pub nothing_unrolled : Unrolled
nothing_unrolled = record { count = 0; states = [] }

abbrev pub unrolled_of : Option TableData → Option WitnessData → Option Present → ℕ → Unrolled
unrolled_of None witness present n = nothing_unrolled
unrolled_of (Some table) None present n = nothing_unrolled
unrolled_of (Some table) (Some witness) None n = nothing_unrolled
unrolled_of (Some table) (Some witness) (Some p) n = unrolled_from table witness n p

abbrev pub unrolled : Model → ℕ → Unrolled
unrolled m n = unrolled_of m.table m.witness m.present n
