use Rattle.std.proofs.Common.{◌≡◌, ℕ, ◌+◌, ◌-◌, ◌*◌, eqb, ltb, List, length, ap, ◌∙◌}
use Rattle.std.proofs.lemmas.Result.{err_from_is_err_and}
use Rattle.rows.specs.declared.fault.FaultKind.TheVariants.{WitnessLength, WitnessCount, WitnessNumber, WitnessWritten}
use Rattle.rows.specs.Bytes.{word_at}
use Rattle.rows.specs.Faults.{Said, ◌and_then◌, check}
use Rattle.rows.proofs.Chains.{stops, goes}
use Rattle.records.specs.declared.shape.Shape.{Shape}
use Rattle.records.specs.Bounded.{listed}
use Rattle.records.specs.Limits.{most_places, most_entries, most_conditions}
use Rattle.records.specs.Slots.{over_values, stride}
use Rattle.formats.specs.Pieces.{byte_at, fault_at, rest_from, reach_says, long_says, count_says, above_says}
use Rattle.formats.specs.StoredRows.{rows_at, rows_say}
use Rattle.formats.specs.Witnesses.{kind_from, number_from, count_from, rows_from, plan_count_from, plan_from, entries, entry_stride, entry_from, place_length, last_of, tested_at, tested_say, place_says}
use Rattle.formats.proofs.PieceTests.{given, given_fault, given_ok, given_err}
use Rattle.sequences.proofs.RecordsSame.{same_place}
use Rattle.sequences.proofs.witness.place_from.Goals as goal
use Rattle.sequences.proofs.witness.place_from.Goals.{In_ok-reaches-2, In_ok-is_long, In_ok-number}

-- where the plan and its last entry stand, as the code computes it, is what the definition says
module _ (shape plain : Shape) (rest : List ℕ) (count row : ℕ) (n : count ≡ byte_at rest count_from) (s : plain ≡ over_values shape) (r : row ≡ stride plain) where
  plan_count : rows_from + row * count ≡ plan_count_from shape rest
  plan_count = rw (r, s, n)

  module _ (all : ℕ) (m : all ≡ byte_at rest (rows_from + row * count)) where
    tests : all - 1 ≡ entries shape rest - 1
    tests = ap (λ (k : ℕ). k - 1) (m ∙ ap (byte_at rest) plan_count)

    begins : rows_from + row * count + 1 ≡ plan_from shape rest
    begins = ap (λ (k : ℕ). k + 1) plan_count

    last : rows_from + row * count + 1 + (2 + row) * (all - 1) ≡ entry_from shape (plan_from shape rest) (entries shape rest - 1)
    last =
        ap (λ (k : ℕ). k + (2 + row) * (all - 1)) begins
        ∙ ap (λ (k : ℕ). plan_from shape rest + (2 + k) * (all - 1)) (r ∙ ap stride s)
        ∙ ap (λ (k : ℕ). plan_from shape rest + entry_stride shape * k) tests

-- a chain goes on behind the first tests, of how many places there are and where the plan's count stands
past_plan_count : {x r : Said} (c : In_ok-reaches-2) → x ≡ r → x ≡ (check (ltb (length (listed c.args.noted.now.places)) most_places) (fault_at WitnessCount (rest_from c.args.piece.offset + kind_from))
    and_then reach_says WitnessLength c.args.piece.offset c.args.piece.rest.now (count_from + 1)
    and_then count_says WitnessCount c.args.piece.offset c.args.piece.rest.now count_from 0 most_conditions
    and_then reach_says WitnessLength c.args.piece.offset c.args.piece.rest.now (plan_count_from c.args.shape c.args.piece.rest.now + 1)
    and_then r)
past_plan_count c e =
    let places = ap (λ (n : ℕ). check (ltb n most_places) c.fault.result) c.len-places.ensures.value ∙ ap (check (ltb (length (listed c.args.noted.now.places)) most_places)) c.fault.ensures in
    let rows = given_ok _ _ _ c.in_ok-rows.ensures in
    let u = plan_count c.args.shape _ c.args.piece.rest.now _ _ (c.from-count.ensures ∙ rows.1) c.over_values-plain.ensures c.stride-stride.ensures in
    goes _ _ _ (c.in_ok-check.ensures ∙ places)
    (goes _ _ _ c.in_ok-reaches.ensures
    (goes _ _ _ rows.0 (goes _ _ _ (c.in_ok-reaches-2.ensures ∙ ap (λ (k : ℕ). reach_says WitnessLength c.args.piece.offset c.args.piece.rest.now (k + 1)) u) e)))

-- and behind those of the plan's count and of the length
past_long : {x r : Said} (c : In_ok-is_long) → x ≡ r → x ≡ (count_says WitnessCount c.args.piece.offset c.args.piece.rest.now (plan_count_from c.args.shape c.args.piece.rest.now) 1 most_entries
    and_then long_says WitnessLength c.args.piece.offset c.args.piece.rest.now (place_length c.args.shape c.args.piece.rest.now)
    and_then r)
past_long c e =
    let n = c.from-count.ensures ∙ (given_ok _ _ _ c.in_ok-rows.ensures).1 in
    let o = given_ok _ _ _ c.in_ok-entries.ensures in
    let u = plan_count c.args.shape _ c.args.piece.rest.now _ _ n c.over_values-plain.ensures c.stride-stride.ensures in
    let l = last c.args.shape _ c.args.piece.rest.now _ _ n c.over_values-plain.ensures c.stride-stride.ensures _ (c.from-tests.ensures ∙ o.1) in
    goes _ _ _ (o.0 ∙ ap (λ (k : ℕ). count_says WitnessCount c.args.piece.offset c.args.piece.rest.now k 1 most_entries) u)
    (goes _ _ _ (c.in_ok-is_long.ensures ∙ ap (λ (k : ℕ). long_says WitnessLength c.args.piece.offset c.args.piece.rest.now (k + 2)) l) e)

-- and behind those of the numbers
past_number : {x r : Said} (c : In_ok-number) → x ≡ r → x ≡ (check (eqb (length (listed c.args.noted.now.inners)) 0) (fault_at WitnessNumber (rest_from c.args.piece.offset + kind_from))
    and_then above_says WitnessNumber c.args.piece.offset c.args.piece.rest.now number_from (last_of (listed c.args.noted.now.places))
    and_then r)
past_number c e =
    let inners = ap (λ (n : ℕ). check (eqb n 0) c.fault-2.result) c.len-inners.ensures.value ∙ ap (check (eqb (length (listed c.args.noted.now.inners)) 0)) c.fault-2.ensures in
    let before = ap (above_says WitnessNumber c.args.piece.offset c.args.piece.rest.now number_from) c.last_of-before.ensures in
    goes _ _ _ (c.in_ok-check-2.ensures ∙ inners) (goes _ _ _ ((given_ok _ _ _ c.in_ok-number.ensures).0 ∙ before) e)

-- the condition rows and the entries with a test, by their shape, places and counts in the definition
module _ (c : In_ok-is_long) where
  conditions : {A : Type 0} (f : Shape → ℕ → A) → f c.over_values-plain.result c.from-count.result ≡ f (over_values c.args.shape) (byte_at c.args.piece.rest.now count_from)
  conditions f = ap (λ (z : Shape). f z c.from-count.result) c.over_values-plain.ensures ∙ ap (f (over_values c.args.shape)) (c.from-count.ensures ∙ (given_ok _ _ _ c.in_ok-rows.ensures).1)

  tested : {A : Type 0} (f : ℕ → ℕ → A) → f (rows_from + c.stride-stride.result * c.from-count.result + 1) (c.from-tests.result - 1) ≡ f (plan_from c.args.shape c.args.piece.rest.now) (entries c.args.shape c.args.piece.rest.now - 1)
  tested f =
      let n = c.from-count.ensures ∙ (given_ok _ _ _ c.in_ok-rows.ensures).1 in
      let m = c.from-tests.ensures ∙ (given_ok _ _ _ c.in_ok-entries.ensures).1 in
      ap (λ (k : ℕ). f k (c.from-tests.result - 1)) (begins c.args.shape _ c.args.piece.rest.now _ _ n c.over_values-plain.ensures c.stride-stride.ensures _ m)
      ∙ ap (f (plan_from c.args.shape c.args.piece.rest.now)) (tests c.args.shape _ c.args.piece.rest.now _ _ n c.over_values-plain.ensures c.stride-stride.ensures _ m)

pub returns-in_err-check : goal.returns-in_err-check
unfolding place_says
returns-in_err-check c =
    let p = err_from_is_err_and c.from_residual.result c.from_residual.ensures.1 in
    let r = ap (λ (n : ℕ). check (ltb n most_places) c.fault.result) c.len-places.ensures.value ∙ ap (check (ltb (length (listed c.args.noted.now.places)) most_places)) c.fault.ensures in
    rw (p.1, p.2) (given_fault _ _ _ (stops _ _ _ (c.in_err-check.ensures ∙ r)))

pub returns-in_err-reaches : goal.returns-in_err-reaches
unfolding place_says
returns-in_err-reaches c =
    let p = err_from_is_err_and c.from_residual-in_err-reaches.result c.from_residual-in_err-reaches.ensures.1 in
    let r = ap (λ (n : ℕ). check (ltb n most_places) c.fault.result) c.len-places.ensures.value ∙ ap (check (ltb (length (listed c.args.noted.now.places)) most_places)) c.fault.ensures in
    rw (p.1, p.2) (given_fault _ _ _ (goes _ _ _ (c.in_ok-check.ensures ∙ r) (stops _ _ _ c.in_err-reaches.ensures)))

pub returns-in_err-rows : goal.returns-in_err-rows
unfolding place_says
returns-in_err-rows c =
    let p = err_from_is_err_and c.from_residual-in_err-rows.result c.from_residual-in_err-rows.ensures.1 in
    let r = ap (λ (n : ℕ). check (ltb n most_places) c.fault.result) c.len-places.ensures.value ∙ ap (check (ltb (length (listed c.args.noted.now.places)) most_places)) c.fault.ensures in
    rw (p.1, p.2) (given_fault _ _ _ (goes _ _ _ (c.in_ok-check.ensures ∙ r) (goes _ _ _ c.in_ok-reaches.ensures (stops _ _ _ (given_err _ _ _ c.in_err-rows.ensures)))))

pub returns-in_err-reaches-2 : goal.returns-in_err-reaches-2
unfolding place_says
returns-in_err-reaches-2 c =
    let p = err_from_is_err_and c.from_residual-in_err-reaches-2.result c.from_residual-in_err-reaches-2.ensures.1 in
    let r = ap (λ (n : ℕ). check (ltb n most_places) c.fault.result) c.len-places.ensures.value ∙ ap (check (ltb (length (listed c.args.noted.now.places)) most_places)) c.fault.ensures in
    let o = given_ok _ _ _ c.in_ok-rows.ensures in
    let u = plan_count c.args.shape _ c.args.piece.rest.now _ _ (c.from-count.ensures ∙ o.1) c.over_values-plain.ensures c.stride-stride.ensures in
    rw (p.1, p.2) (given_fault _ _ _ (goes _ _ _ (c.in_ok-check.ensures ∙ r) (goes _ _ _ c.in_ok-reaches.ensures (goes _ _ _ o.0 (stops _ _ _ (c.in_err-reaches-2.ensures ∙ ap (λ (k : ℕ). reach_says WitnessLength c.args.piece.offset c.args.piece.rest.now (k + 1)) u))))))

pub returns-in_err-entries : goal.returns-in_err-entries
unfolding place_says
returns-in_err-entries c =
    let p = err_from_is_err_and c.from_residual-in_err-entries.result c.from_residual-in_err-entries.ensures.1 in
    let d = (goal.at.returns-in_err-entries c).In_ok-reaches-2 in
    let u = plan_count c.args.shape _ c.args.piece.rest.now _ _ (c.from-count.ensures ∙ (given_ok _ _ _ c.in_ok-rows.ensures).1) c.over_values-plain.ensures c.stride-stride.ensures in
    rw (p.1, p.2) (given_fault _ _ _ (past_plan_count d (stops _ _ _ (given_err _ _ _ c.in_err-entries.ensures ∙ ap (λ (k : ℕ). count_says WitnessCount c.args.piece.offset c.args.piece.rest.now k 1 most_entries) u))))

pub returns-in_err-is_long : goal.returns-in_err-is_long
unfolding place_says
returns-in_err-is_long c =
    let p = err_from_is_err_and c.from_residual-in_err-is_long.result c.from_residual-in_err-is_long.ensures.1 in
    let d = (goal.at.returns-in_err-is_long c).In_ok-reaches-2 in
    let n = c.from-count.ensures ∙ (given_ok _ _ _ c.in_ok-rows.ensures).1 in
    let o = given_ok _ _ _ c.in_ok-entries.ensures in
    let u = plan_count c.args.shape _ c.args.piece.rest.now _ _ n c.over_values-plain.ensures c.stride-stride.ensures in
    let l = last c.args.shape _ c.args.piece.rest.now _ _ n c.over_values-plain.ensures c.stride-stride.ensures _ (c.from-tests.ensures ∙ o.1) in
    rw (p.1, p.2) (given_fault _ _ _ (past_plan_count d (goes _ _ _ (o.0 ∙ ap (λ (k : ℕ). count_says WitnessCount c.args.piece.offset c.args.piece.rest.now k 1 most_entries) u) (stops _ _ _ (c.in_err-is_long.ensures ∙ ap (λ (k : ℕ). long_says WitnessLength c.args.piece.offset c.args.piece.rest.now (k + 2)) l)))))

pub returns-in_err-check-2 : goal.returns-in_err-check-2
unfolding place_says
returns-in_err-check-2 c =
    let p = err_from_is_err_and c.from_residual-in_err-check-2.result c.from_residual-in_err-check-2.ensures.1 in
    let at = goal.at.returns-in_err-check-2 c in
    let h = ap (λ (n : ℕ). check (eqb n 0) c.fault-2.result) c.len-inners.ensures.value ∙ ap (check (eqb (length (listed c.args.noted.now.inners)) 0)) c.fault-2.ensures in
    rw (p.1, p.2) (given_fault _ _ _ (past_plan_count at.In_ok-reaches-2 (past_long at.In_ok-is_long (stops _ _ _ (c.in_err-check-2.ensures ∙ h)))))

pub returns-in_err-number : goal.returns-in_err-number
unfolding place_says
returns-in_err-number c =
    let p = err_from_is_err_and c.from_residual-in_err-number.result c.from_residual-in_err-number.ensures.1 in
    let at = goal.at.returns-in_err-number c in
    let h = ap (λ (n : ℕ). check (eqb n 0) c.fault-2.result) c.len-inners.ensures.value ∙ ap (check (eqb (length (listed c.args.noted.now.inners)) 0)) c.fault-2.ensures in
    let b = ap (above_says WitnessNumber c.args.piece.offset c.args.piece.rest.now number_from) c.last_of-before.ensures in
    rw (p.1, p.2) (given_fault _ _ _ (past_plan_count at.In_ok-reaches-2 (past_long at.In_ok-is_long (goes _ _ _ (c.in_ok-check-2.ensures ∙ h) (stops _ _ _ (given_err _ _ _ c.in_err-number.ensures ∙ b))))))

pub returns-in_err-condition : goal.returns-in_err-condition
unfolding place_says
returns-in_err-condition c =
    let p = err_from_is_err_and c.from_residual-in_err-condition.result c.from_residual-in_err-condition.ensures.1 in
    let at = goal.at.returns-in_err-condition c in
    let q = conditions at.In_ok-is_long (λ (z : Shape) (k : ℕ). rows_say WitnessWritten z c.args.piece.offset c.args.piece.rest.now rows_from k) in
    rw (p.1, p.2) (given_fault _ _ _ (past_plan_count at.In_ok-reaches-2 (past_long at.In_ok-is_long (past_number at.In_ok-number (stops _ _ _ (given_err _ _ _ c.in_err-condition.ensures ∙ q))))))

pub returns-in_err-tested : goal.returns-in_err-tested
unfolding place_says
returns-in_err-tested c =
    let p = err_from_is_err_and c.from_residual-in_err-tested.result c.from_residual-in_err-tested.ensures.1 in
    let at = goal.at.returns-in_err-tested c in
    let q = conditions at.In_ok-is_long (λ (z : Shape) (k : ℕ). rows_say WitnessWritten z c.args.piece.offset c.args.piece.rest.now rows_from k) in
    let t = tested at.In_ok-is_long (tested_say c.args.shape c.args.piece.offset c.args.piece.rest.now) in
    rw (p.1, p.2) (given_fault _ _ _ (past_plan_count at.In_ok-reaches-2 (past_long at.In_ok-is_long (past_number at.In_ok-number (goes _ _ _ ((given_ok _ _ _ c.in_ok-condition.ensures).0 ∙ q) (given_err _ _ _ c.in_err-tested.ensures ∙ t))))))

pub returns : goal.returns
unfolding place_says
returns c =
    let at = goal.at.returns c in
    let d = at.In_ok-is_long in
    let condition = given_ok _ _ _ c.in_ok-condition.ensures in
    let test = given_ok _ _ _ c.in_ok-tested.ensures in
    let l = last c.args.shape _ c.args.piece.rest.now _ _ (c.from-count.ensures ∙ (given_ok _ _ _ c.in_ok-rows.ensures).1) c.over_values-plain.ensures c.stride-stride.ensures _ (c.from-tests.ensures ∙ (given_ok _ _ _ c.in_ok-entries.ensures).1) in
    given _ _ _
    (past_plan_count at.In_ok-reaches-2 (past_long d (past_number at.In_ok-number (goes _ _ _ (condition.0 ∙ conditions d (λ (z : Shape) (k : ℕ). rows_say WitnessWritten z c.args.piece.offset c.args.piece.rest.now rows_from k)) (test.0 ∙ tested d (tested_say c.args.shape c.args.piece.offset c.args.piece.rest.now))))))
    (same_place (given_ok _ _ _ c.in_ok-number.ensures).1
    (condition.1 ∙ conditions d (λ (z : Shape) (k : ℕ). rows_at z c.args.piece.rest.now rows_from k))
    (test.1 ∙ tested d (tested_at c.args.shape c.args.piece.rest.now))
    (c.word_at-last.ensures ∙ ap (word_at c.args.piece.rest.now) l))
