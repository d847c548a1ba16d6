use Rattle.std.proofs.Common.{◌≡◌, ℕ, ◌+◌, ◌*◌, ltb, List, length, ap, ◌∙◌}
use Rattle.std.proofs.lemmas.Result.{err_from_is_err_and}
use Rattle.rows.specs.declared.fault.FaultKind.TheVariants.{WitnessLength, WitnessCount, WitnessNumber, WitnessWritten}
use Rattle.rows.specs.Faults.{Said, ◌and_then◌, check}
use Rattle.rows.proofs.Chains.{stops, goes}
use Rattle.records.specs.declared.shape.Shape.{Shape}
use Rattle.records.specs.Bounded.{listed}
use Rattle.records.specs.Limits.{most_inners, most_restrictions}
use Rattle.records.specs.Slots.{over_values, stride}
use Rattle.formats.specs.Pieces.{byte_at, fault_at, rest_from, reach_says, count_says, long_says, above_says}
use Rattle.formats.specs.StoredRows.{rows_at, rows_say}
use Rattle.formats.specs.Witnesses.{kind_from, number_from, count_from, rows_from, choices_from, inner_length, inner_says}
use Rattle.formats.proofs.PieceTests.{given, given_fault, given_ok, given_err}
use Rattle.sequences.proofs.RecordsSame.{same_inner}
use Rattle.sequences.proofs.witness.inner_from.Goals as goal
use Rattle.sequences.proofs.witness.inner_from.Goals.{In_ok-is_long}

-- where the choice expressions begin and how long the rest is, as the code computes it, is what the definition says
module _ (shape values : Shape) (rest : List ℕ) (count amount row expression : ℕ) (n : count ≡ byte_at rest count_from) (m : amount ≡ shape.choices) (s : values ≡ over_values shape) (r : row ≡ stride shape) (e : expression ≡ stride values) where
  from : rows_from + row * count ≡ choices_from shape rest
  from = rw (r, n)

  whole : rows_from + row * count + expression * amount ≡ inner_length shape rest
  whole = rw (r, n, e, s, m)

-- a chain goes on behind the tests up to that of the length
past_long : {x r : Said} (c : In_ok-is_long) → x ≡ r → x ≡ (check (ltb (length (listed c.args.noted.now.inners)) most_inners) (fault_at WitnessCount (rest_from c.args.piece.offset + kind_from))
    and_then reach_says WitnessLength c.args.piece.offset c.args.piece.rest.now (count_from + 1)
    and_then count_says WitnessCount c.args.piece.offset c.args.piece.rest.now count_from 0 most_restrictions
    and_then long_says WitnessLength c.args.piece.offset c.args.piece.rest.now (inner_length c.args.shape c.args.piece.rest.now)
    and_then r)
past_long c e =
    let inners = ap (λ (n : ℕ). check (ltb n most_inners) c.fault.result) c.len-inners.ensures.value ∙ ap (check (ltb (length (listed c.args.noted.now.inners)) most_inners)) c.fault.ensures in
    let o = given_ok _ _ _ c.in_ok-rows.ensures in
    let l = whole c.args.shape _ c.args.piece.rest.now _ _ _ _ (c.from-count.ensures ∙ o.1) c.from-amount.ensures c.over_values-plain.ensures c.stride.ensures c.stride-2.ensures in
    goes _ _ _ (c.in_ok-check.ensures ∙ inners)
    (goes _ _ _ c.in_ok-reaches.ensures (goes _ _ _ o.0 (goes _ _ _ (c.in_ok-is_long.ensures ∙ ap (long_says WitnessLength c.args.piece.offset c.args.piece.rest.now) l) e)))

-- the restriction rows and the choice expressions, by their places and counts in the definition
module _ (c : In_ok-is_long) where
  restrictions : {A : Type 0} (f : ℕ → A) → f c.from-count.result ≡ f (byte_at c.args.piece.rest.now count_from)
  restrictions f = ap f (c.from-count.ensures ∙ (given_ok _ _ _ c.in_ok-rows.ensures).1)

  choices : {A : Type 0} (f : Shape → ℕ → ℕ → A) → f c.over_values-plain.result (rows_from + c.stride.result * c.from-count.result) c.from-amount.result ≡ f (over_values c.args.shape) (choices_from c.args.shape c.args.piece.rest.now) c.args.shape.choices
  choices f =
      ap (λ (z : Shape). f z (rows_from + c.stride.result * c.from-count.result) c.from-amount.result) c.over_values-plain.ensures
      ∙ ap (λ (k : ℕ). f (over_values c.args.shape) k c.from-amount.result)
      (from c.args.shape _ c.args.piece.rest.now _ _ _ _ (c.from-count.ensures ∙ (given_ok _ _ _ c.in_ok-rows.ensures).1) c.from-amount.ensures c.over_values-plain.ensures c.stride.ensures c.stride-2.ensures)
      ∙ ap (f (over_values c.args.shape) (choices_from c.args.shape c.args.piece.rest.now)) c.from-amount.ensures

pub returns-in_err-check : goal.returns-in_err-check
unfolding inner_says
returns-in_err-check c =
    let p = err_from_is_err_and c.from_residual.result c.from_residual.ensures.1 in
    let r = ap (λ (n : ℕ). check (ltb n most_inners) c.fault.result) c.len-inners.ensures.value ∙ ap (check (ltb (length (listed c.args.noted.now.inners)) most_inners)) c.fault.ensures in
    rw (p.1, p.2) (given_fault _ _ _ (stops _ _ _ (c.in_err-check.ensures ∙ r)))

pub returns-in_err-reaches : goal.returns-in_err-reaches
unfolding inner_says
returns-in_err-reaches c =
    let p = err_from_is_err_and c.from_residual-in_err-reaches.result c.from_residual-in_err-reaches.ensures.1 in
    let r = ap (λ (n : ℕ). check (ltb n most_inners) c.fault.result) c.len-inners.ensures.value ∙ ap (check (ltb (length (listed c.args.noted.now.inners)) most_inners)) c.fault.ensures in
    rw (p.1, p.2) (given_fault _ _ _ (goes _ _ _ (c.in_ok-check.ensures ∙ r) (stops _ _ _ c.in_err-reaches.ensures)))

pub returns-in_err-rows : goal.returns-in_err-rows
unfolding inner_says
returns-in_err-rows c =
    let p = err_from_is_err_and c.from_residual-in_err-rows.result c.from_residual-in_err-rows.ensures.1 in
    let r = ap (λ (n : ℕ). check (ltb n most_inners) c.fault.result) c.len-inners.ensures.value ∙ ap (check (ltb (length (listed c.args.noted.now.inners)) most_inners)) c.fault.ensures in
    rw (p.1, p.2) (given_fault _ _ _ (goes _ _ _ (c.in_ok-check.ensures ∙ r) (goes _ _ _ c.in_ok-reaches.ensures (stops _ _ _ (given_err _ _ _ c.in_err-rows.ensures)))))

pub returns-in_err-is_long : goal.returns-in_err-is_long
unfolding inner_says
returns-in_err-is_long c =
    let p = err_from_is_err_and c.from_residual-in_err-is_long.result c.from_residual-in_err-is_long.ensures.1 in
    let r = ap (λ (n : ℕ). check (ltb n most_inners) c.fault.result) c.len-inners.ensures.value ∙ ap (check (ltb (length (listed c.args.noted.now.inners)) most_inners)) c.fault.ensures in
    let o = given_ok _ _ _ c.in_ok-rows.ensures in
    let l = whole c.args.shape _ c.args.piece.rest.now _ _ _ _ (c.from-count.ensures ∙ o.1) c.from-amount.ensures c.over_values-plain.ensures c.stride.ensures c.stride-2.ensures in
    rw (p.1, p.2) (given_fault _ _ _ (goes _ _ _ (c.in_ok-check.ensures ∙ r) (goes _ _ _ c.in_ok-reaches.ensures (goes _ _ _ o.0 (stops _ _ _ (c.in_err-is_long.ensures ∙ ap (long_says WitnessLength c.args.piece.offset c.args.piece.rest.now) l))))))

pub returns-in_err-number : goal.returns-in_err-number
unfolding inner_says
returns-in_err-number c =
    let p = err_from_is_err_and c.from_residual-in_err-number.result c.from_residual-in_err-number.ensures.1 in
    let d = (goal.at.returns-in_err-number c).In_ok-is_long in
    let b = ap (above_says WitnessNumber c.args.piece.offset c.args.piece.rest.now number_from) c.last_of-before.ensures in
    rw (p.1, p.2) (given_fault _ _ _ (past_long d (stops _ _ _ (given_err _ _ _ c.in_err-number.ensures ∙ b))))

pub returns-in_err-restrictions : goal.returns-in_err-restrictions
unfolding inner_says
returns-in_err-restrictions c =
    let p = err_from_is_err_and c.from_residual-in_err-restrictions.result c.from_residual-in_err-restrictions.ensures.1 in
    let d = (goal.at.returns-in_err-restrictions c).In_ok-is_long in
    let b = ap (above_says WitnessNumber c.args.piece.offset c.args.piece.rest.now number_from) c.last_of-before.ensures in
    let q = restrictions d (rows_say WitnessWritten c.args.shape c.args.piece.offset c.args.piece.rest.now rows_from) in
    rw (p.1, p.2) (given_fault _ _ _ (past_long d (goes _ _ _ ((given_ok _ _ _ c.in_ok-number.ensures).0 ∙ b) (stops _ _ _ (given_err _ _ _ c.in_err-restrictions.ensures ∙ q)))))

pub returns-in_err-choices : goal.returns-in_err-choices
unfolding inner_says
returns-in_err-choices c =
    let p = err_from_is_err_and c.from_residual-in_err-choices.result c.from_residual-in_err-choices.ensures.1 in
    let d = (goal.at.returns-in_err-choices c).In_ok-is_long in
    let b = ap (above_says WitnessNumber c.args.piece.offset c.args.piece.rest.now number_from) c.last_of-before.ensures in
    let q = restrictions d (rows_say WitnessWritten c.args.shape c.args.piece.offset c.args.piece.rest.now rows_from) in
    let w = choices d (λ (z : Shape). rows_say WitnessWritten z c.args.piece.offset c.args.piece.rest.now) in
    rw (p.1, p.2) (given_fault _ _ _ (past_long d (goes _ _ _ ((given_ok _ _ _ c.in_ok-number.ensures).0 ∙ b) (goes _ _ _ ((given_ok _ _ _ c.in_ok-restrictions.ensures).0 ∙ q) (given_err _ _ _ c.in_err-choices.ensures ∙ w)))))

pub returns : goal.returns
unfolding inner_says
returns c =
    let d = (goal.at.returns c).In_ok-is_long in
    let b = ap (above_says WitnessNumber c.args.piece.offset c.args.piece.rest.now number_from) c.last_of-before.ensures in
    let q = restrictions d (rows_say WitnessWritten c.args.shape c.args.piece.offset c.args.piece.rest.now rows_from) in
    let w = choices d (λ (z : Shape). rows_say WitnessWritten z c.args.piece.offset c.args.piece.rest.now) in
    let number = given_ok _ _ _ c.in_ok-number.ensures in
    let restriction = given_ok _ _ _ c.in_ok-restrictions.ensures in
    let choice = given_ok _ _ _ c.in_ok-choices.ensures in
    given _ _ _ (past_long d (goes _ _ _ (number.0 ∙ b) (goes _ _ _ (restriction.0 ∙ q) (choice.0 ∙ w))))
    (same_inner number.1 (restriction.1 ∙ restrictions d (rows_at c.args.shape c.args.piece.rest.now rows_from)) (choice.1 ∙ choices d (λ (z : Shape). rows_at z c.args.piece.rest.now)))
