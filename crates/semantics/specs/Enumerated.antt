-- The same obligations as functions that compute: the question that each poses, if there is such an obligation, and all
-- obligations of a table and a witness in the order C, R, G, X, the lowest first.
use Rattle.std.specs.Prelude.{ℕ, ◌+◌, Bool, cond, not, ◌&&◌, List, [], ◌∷◌, ◌++◌, map, length, take, is_some, Some, None, Option, ◌==◌}
use Rattle.std.specs.List.{range_with_len}
use Rattle.rows.specs.declared.numbers.Numbers.{Numbers}
use Rattle.rows.specs.Shapes.{opposite_of}
use Rattle.records.specs.Lists.{at}
use Rattle.records.specs.Records.{TransitionData, TableData, EntryData, PlaceData, InnerData, WitnessData}
use Rattle.semantics.specs.declared.obligation.Obligation.{Obligation}
use Rattle.semantics.specs.declared.obligation.Obligation.TheVariants.{Consecution, Restriction, Guard, Exit}
use Rattle.semantics.specs.Goals.{after_update, with_choices, impossible}
use Rattle.semantics.specs.Obligations.{tests}
use Rattle.semantics.specs.Plans.{transition_with, inner_with, place_with}

-- what an obligation asks
pub record Posed : Type 0 where
  pub facts : List Numbers
  pub goal : Numbers

abbrev pub posed : List Numbers → Numbers → Posed
posed facts goal = record { facts = facts; goal = goal }

-- one part after another: nothing where one of them is missing
abbrev pub given : {A B : Type 0} → Option A → (A → Option B) → Option B
given None next = None
given (Some x) next = next x

abbrev pub unless : {A : Type 0} → Bool → Option A → Option A
unless test found = cond test None found

abbrev pub consecution_of : TableData → WitnessData → ℕ → ℕ → Option Posed
consecution_of table witness n r =
    given (transition_with table n) (λ t.
    given (inner_with witness n) (λ i.
    given (place_with witness t.start) (λ p.
    given (place_with witness t.target) (λ q.
    given (at r q.condition) (λ row.
    Some (posed (p.condition ++ (t.guard ++ i.restrictions)) (after_update t row)))))))

abbrev pub restriction_of : TableData → WitnessData → ℕ → ℕ → Option Posed
restriction_of table witness n r =
    given (transition_with table n) (λ t.
    given (inner_with witness n) (λ i.
    given (place_with witness t.start) (λ p.
    given (at r i.restrictions) (λ row.
    Some (posed (p.condition ++ t.guard) (with_choices i row))))))

-- the transition of an entry of a plan, if there is such an entry, and what holds where the plan takes it
abbrev pub after_tests : PlaceData → ℕ → Option EntryData → Option ℕ
after_tests p e None = cond (e == length p.tested) (Some p.last) None
after_tests p e (Some entry) = Some entry.transition

abbrev pub entry_transition : PlaceData → ℕ → Option ℕ
entry_transition p e = after_tests p e (at e p.tested)

abbrev pub own_test : Option EntryData → List Numbers
own_test None = []
own_test (Some entry) = entry.test ∷ []

abbrev pub entry_facts : PlaceData → ℕ → List Numbers
entry_facts p e = map opposite_of (take e (tests p.tested)) ++ own_test (at e p.tested)

abbrev pub guard_of : TableData → WitnessData → ℕ → ℕ → ℕ → Option Posed
guard_of table witness place e r =
    given (place_with witness place) (λ p.
    given (entry_transition p e) (λ n.
    given (transition_with table n) (λ t.
    given (at r t.guard) (λ row.
    Some (posed (p.condition ++ entry_facts p e) row)))))

abbrev pub exit_of : TableData → WitnessData → ℕ → Option Posed
exit_of table witness n =
    unless (is_some (inner_with witness n))
    (given (transition_with table n) (λ t.
    given (place_with witness t.start) (λ p.
    Some (posed (p.condition ++ t.guard) impossible))))

unfoldable pub question_of : TableData → WitnessData → Obligation → Option Posed
question_of table witness (Consecution n r) = consecution_of table witness n r
question_of table witness (Restriction n r) = restriction_of table witness n r
question_of table witness (Guard place e r) = guard_of table witness place e r
question_of table witness (Exit n) = exit_of table witness n

-- the lists that elements give, one behind another
abbrev pub gathered : {A B : Type 0} → (A → List B) → List A → List B
gathered f [] = []
gathered f (x ∷ xs) = f x ++ gathered f xs

-- how many rows there are in what is found
abbrev pub condition_rows : Option PlaceData → ℕ
condition_rows None = 0
condition_rows (Some p) = length p.condition

abbrev pub guard_rows : Option TransitionData → ℕ
guard_rows None = 0
guard_rows (Some t) = length t.guard

abbrev pub consecutions_of : TableData → WitnessData → InnerData → List Obligation
consecutions_of table witness i =
    map (Consecution i.number) (range_with_len 0 (condition_rows (given (transition_with table i.number) (λ t. place_with witness t.target))))

abbrev pub restrictions_of : InnerData → List Obligation
restrictions_of i = map (Restriction i.number) (range_with_len 0 (length i.restrictions))

abbrev pub guards_at : TableData → PlaceData → ℕ → List Obligation
guards_at table p e = map (Guard p.number e) (range_with_len 0 (guard_rows (given (entry_transition p e) (transition_with table))))

abbrev pub guards_of : TableData → PlaceData → List Obligation
guards_of table p = gathered (guards_at table p) (range_with_len 0 (length p.tested + 1))

abbrev pub exits_of : WitnessData → TransitionData → List Obligation
exits_of witness t = cond (is_some (place_with witness t.start) && not (is_some (inner_with witness t.number))) (Exit t.number ∷ []) []

unfoldable pub obligations_of : TableData → WitnessData → List Obligation
obligations_of table witness =
    gathered (consecutions_of table witness) witness.inners
    ++ (gathered restrictions_of witness.inners
    ++ (gathered (guards_of table) witness.places
    ++ gathered (exits_of witness) table.transitions))
