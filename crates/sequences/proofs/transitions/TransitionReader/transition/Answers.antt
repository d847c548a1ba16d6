use Rattle.std.proofs.Common.{◌≡◌, ℕ, ◌+◌, ◌*◌, ltb, List, ap, ◌∙◌}
use Rattle.std.proofs.lemmas.Result.{err_from_is_err_and}
use Rattle.rows.specs.declared.fault.FaultKind.TheVariants.{TableLength, TableCount, TableWritten}
use Rattle.rows.specs.Faults.{Said, ◌and_then◌, check}
use Rattle.rows.proofs.Chains.{stops, goes}
use Rattle.records.specs.declared.shape.Shape.{Shape}
use Rattle.records.specs.Limits.{most_guards}
use Rattle.records.specs.Slots.{over_values, stride}
use Rattle.formats.specs.Pieces.{byte_at, fault_at, reach_says, count_says, long_says}
use Rattle.formats.specs.StoredRows.{rows_at, rows_say}
use Rattle.formats.specs.Tables.{guard_from, guard_count_from, updates_from, transition_length, transition_says}
use Rattle.formats.proofs.PieceTests.{given, given_fault, given_ok, given_err}
use Rattle.sequences.proofs.RecordsSame.{same_transition}
use Rattle.sequences.proofs.transitions.TransitionReader.transition.Goals as goal
use Rattle.sequences.proofs.transitions.TransitionReader.transition.Goals.{In_ok-is_long}

-- where the updates begin and how long the rest is, as the code computes it, is what the definition says
module _ (shape plain : Shape) (rest : List ℕ) (count values row expression : ℕ) (n : count ≡ byte_at rest guard_count_from) (v : values ≡ shape.values) (s : plain ≡ over_values shape) (r : row ≡ stride plain) (e : expression ≡ stride shape) where
  from : guard_from + row * count ≡ updates_from shape rest
  from = rw (r, s, n)

  whole : guard_from + row * count + expression * values ≡ transition_length shape rest
  whole = rw (r, s, n, v, e)

-- a chain goes on behind the tests up to that of the length
past_long : {x r : Said} (c : In_ok-is_long) → x ≡ r → x ≡ (reach_says TableLength c.args.piece.offset c.args.piece.rest.now (guard_count_from + 1)
    and_then check (ltb 0 c.args.self.now.room) (fault_at TableCount c.args.piece.offset)
    and_then count_says TableCount c.args.piece.offset c.args.piece.rest.now guard_count_from 0 most_guards
    and_then long_says TableLength c.args.piece.offset c.args.piece.rest.now (transition_length c.args.self.now.shape c.args.piece.rest.now)
    and_then r)
past_long c e =
    let o = given_ok _ _ _ c.in_ok-rows.ensures in
    let l = whole c.args.self.now.shape c.over_values-plain.result c.args.piece.rest.now _ _ _ _ (c.from-count.ensures ∙ o.1) c.from-values.ensures c.over_values-plain.ensures c.stride.ensures c.stride-2.ensures in
    goes _ _ _ c.in_ok-reaches.ensures
    (goes _ _ _ (c.in_ok-check.ensures ∙ ap (check (ltb 0 c.args.self.now.room)) c.at.ensures)
    (goes _ _ _ o.0 (goes _ _ _ (c.in_ok-is_long.ensures ∙ ap (long_says TableLength c.args.piece.offset c.args.piece.rest.now) l) e)))

pub returns-in_err-reaches : goal.returns-in_err-reaches
unfolding transition_says
returns-in_err-reaches c =
    let p = err_from_is_err_and c.from_residual.result c.from_residual.ensures.1 in
    rw (p.1, p.2) (given_fault _ _ _ (stops _ _ _ c.in_err-reaches.ensures))

pub returns-in_err-check : goal.returns-in_err-check
unfolding transition_says
returns-in_err-check c =
    let p = err_from_is_err_and c.from_residual-in_err-check.result c.from_residual-in_err-check.ensures.1 in
    rw (p.1, p.2) (given_fault _ _ _ (goes _ _ _ c.in_ok-reaches.ensures (stops _ _ _ (c.in_err-check.ensures ∙ ap (check (ltb 0 c.args.self.now.room)) c.at.ensures))))

pub returns-in_err-rows : goal.returns-in_err-rows
unfolding transition_says
returns-in_err-rows c =
    let p = err_from_is_err_and c.from_residual-in_err-rows.result c.from_residual-in_err-rows.ensures.1 in
    rw (p.1, p.2) (given_fault _ _ _ (goes _ _ _ c.in_ok-reaches.ensures (goes _ _ _ (c.in_ok-check.ensures ∙ ap (check (ltb 0 c.args.self.now.room)) c.at.ensures) (stops _ _ _ (given_err _ _ _ c.in_err-rows.ensures)))))

pub returns-in_err-is_long : goal.returns-in_err-is_long
unfolding transition_says
returns-in_err-is_long c =
    let p = err_from_is_err_and c.from_residual-in_err-is_long.result c.from_residual-in_err-is_long.ensures.1 in
    let o = given_ok _ _ _ c.in_ok-rows.ensures in
    let l = whole c.args.self.now.shape c.over_values-plain.result c.args.piece.rest.now _ _ _ _ (c.from-count.ensures ∙ o.1) c.from-values.ensures c.over_values-plain.ensures c.stride.ensures c.stride-2.ensures in
    rw (p.1, p.2) (given_fault _ _ _ (goes _ _ _ c.in_ok-reaches.ensures (goes _ _ _ (c.in_ok-check.ensures ∙ ap (check (ltb 0 c.args.self.now.room)) c.at.ensures) (goes _ _ _ o.0 (stops _ _ _ (c.in_err-is_long.ensures ∙ ap (long_says TableLength c.args.piece.offset c.args.piece.rest.now) l))))))

pub returns-in_err-number : goal.returns-in_err-number
unfolding transition_says
returns-in_err-number c =
    let p = err_from_is_err_and c.from_residual-in_err-number.result c.from_residual-in_err-number.ensures.1 in
    let d = (goal.at.returns-in_err-number c).In_ok-is_long in
    rw (p.1, p.2) (given_fault _ _ _ (past_long d (stops _ _ _ (given_err _ _ _ c.in_err-number.ensures))))

pub returns-in_err-start : goal.returns-in_err-start
unfolding transition_says
returns-in_err-start c =
    let p = err_from_is_err_and c.from_residual-in_err-start.result c.from_residual-in_err-start.ensures.1 in
    let d = (goal.at.returns-in_err-start c).In_ok-is_long in
    rw (p.1, p.2) (given_fault _ _ _ (past_long d (goes _ _ _ (given_ok _ _ _ c.in_ok-number.ensures).0 (stops _ _ _ (given_err _ _ _ c.in_err-start.ensures)))))

pub returns-in_err-target : goal.returns-in_err-target
unfolding transition_says
returns-in_err-target c =
    let p = err_from_is_err_and c.from_residual-in_err-target.result c.from_residual-in_err-target.ensures.1 in
    let d = (goal.at.returns-in_err-target c).In_ok-is_long in
    rw (p.1, p.2) (given_fault _ _ _ (past_long d (goes _ _ _ (given_ok _ _ _ c.in_ok-number.ensures).0 (goes _ _ _ (given_ok _ _ _ c.in_ok-start.ensures).0 (stops _ _ _ (given_err _ _ _ c.in_err-target.ensures))))))

-- the guard rows and the updates, by their shapes and counts in the definition
module _ (c : In_ok-is_long) where
  guards : {A : Type 0} (f : Shape → ℕ → A) → f c.over_values-plain.result c.from-count.result ≡ f (over_values c.args.self.now.shape) (byte_at c.args.piece.rest.now guard_count_from)
  guards f = ap (λ (z : Shape). f z c.from-count.result) c.over_values-plain.ensures ∙ ap (f (over_values c.args.self.now.shape)) (c.from-count.ensures ∙ (given_ok _ _ _ c.in_ok-rows.ensures).1)

  updates : {A : Type 0} (f : ℕ → ℕ → A) → f (guard_from + c.stride.result * c.from-count.result) c.from-values.result ≡ f (updates_from c.args.self.now.shape c.args.piece.rest.now) c.args.self.now.shape.values
  updates f =
      ap (λ (k : ℕ). f k c.from-values.result)
      (from c.args.self.now.shape c.over_values-plain.result c.args.piece.rest.now _ _ _ _ (c.from-count.ensures ∙ (given_ok _ _ _ c.in_ok-rows.ensures).1) c.from-values.ensures c.over_values-plain.ensures c.stride.ensures c.stride-2.ensures)
      ∙ ap (f (updates_from c.args.self.now.shape c.args.piece.rest.now)) c.from-values.ensures

pub returns-in_err-guard : goal.returns-in_err-guard
unfolding transition_says
returns-in_err-guard c =
    let p = err_from_is_err_and c.from_residual-in_err-guard.result c.from_residual-in_err-guard.ensures.1 in
    let d = (goal.at.returns-in_err-guard c).In_ok-is_long in
    let q = guards d (λ (z : Shape) (k : ℕ). rows_say TableWritten z c.args.piece.offset c.args.piece.rest.now guard_from k) in
    rw (p.1, p.2) (given_fault _ _ _ (past_long d (goes _ _ _ (given_ok _ _ _ c.in_ok-number.ensures).0 (goes _ _ _ (given_ok _ _ _ c.in_ok-start.ensures).0 (goes _ _ _ (given_ok _ _ _ c.in_ok-target.ensures).0 (stops _ _ _ (given_err _ _ _ c.in_err-guard.ensures ∙ q)))))))

pub returns-in_err-updates : goal.returns-in_err-updates
unfolding transition_says
returns-in_err-updates c =
    let p = err_from_is_err_and c.from_residual-in_err-updates.result c.from_residual-in_err-updates.ensures.1 in
    let d = (goal.at.returns-in_err-updates c).In_ok-is_long in
    let q = guards d (λ (z : Shape) (k : ℕ). rows_say TableWritten z c.args.piece.offset c.args.piece.rest.now guard_from k) in
    let w = updates d (rows_say TableWritten c.args.self.now.shape c.args.piece.offset c.args.piece.rest.now) in
    rw (p.1, p.2) (given_fault _ _ _ (past_long d (goes _ _ _ (given_ok _ _ _ c.in_ok-number.ensures).0 (goes _ _ _ (given_ok _ _ _ c.in_ok-start.ensures).0 (goes _ _ _ (given_ok _ _ _ c.in_ok-target.ensures).0 (goes _ _ _ ((given_ok _ _ _ c.in_ok-guard.ensures).0 ∙ q) (given_err _ _ _ c.in_err-updates.ensures ∙ w)))))))

pub returns : goal.returns
unfolding transition_says
returns c =
    let d = (goal.at.returns c).In_ok-is_long in
    let q = guards d (λ (z : Shape) (k : ℕ). rows_say TableWritten z c.args.piece.offset c.args.piece.rest.now guard_from k) in
    let w = updates d (rows_say TableWritten c.args.self.now.shape c.args.piece.offset c.args.piece.rest.now) in
    let number = given_ok _ _ _ c.in_ok-number.ensures in
    let start = given_ok _ _ _ c.in_ok-start.ensures in
    let target = given_ok _ _ _ c.in_ok-target.ensures in
    let guard = given_ok _ _ _ c.in_ok-guard.ensures in
    let update = given_ok _ _ _ c.in_ok-updates.ensures in
    given _ _ _ (past_long d (goes _ _ _ number.0 (goes _ _ _ start.0 (goes _ _ _ target.0 (goes _ _ _ (guard.0 ∙ q) (update.0 ∙ w))))))
    (same_transition number.1 start.1 target.1
    (guard.1 ∙ guards d (λ (z : Shape) (k : ℕ). rows_at z c.args.piece.rest.now guard_from k))
    (update.1 ∙ updates d (rows_at c.args.self.now.shape c.args.piece.rest.now)))
