use Rattle.std.proofs.Common.{◌≡◌, ℕ, ◌+◌, ◌*◌, ap, ◌∙◌}
use Rattle.std.proofs.lemmas.Result.{err_from_is_err_and}
use Rattle.rows.specs.declared.fault.FaultKind.TheVariants.{TableLength, TableCount, TableWritten}
use Rattle.rows.specs.Faults.{Said, ◌and_then◌}
use Rattle.rows.proofs.Chains.{stops, goes}
use Rattle.records.specs.declared.shape.Shape.{Shape}
use Rattle.records.specs.Limits.{most_values, most_choices, most_initial}
use Rattle.records.specs.Slots.{over_values, stride}
use Rattle.formats.specs.Pieces.{byte_at, reach_says, count_says, long_says}
use Rattle.formats.specs.StoredRows.{rows_at, rows_say}
use Rattle.formats.specs.Tables.{values_from, choices_from, initial_from, initial_count_from, heading_shape, heading_length, heading_says}
use Rattle.formats.proofs.PieceTests.{given, given_fault, given_ok, given_err}
use Rattle.sequences.proofs.RecordsSame.{same_heading}
use Rattle.sequences.proofs.table.heading_from.Goals as goal
use Rattle.sequences.proofs.table.heading_from.Goals.{In_ok-rows, After-is_long}

-- a chain goes on behind the tests up to those of the values, of the choices and of the initial rows
past_rows : {x r : Said} (c : In_ok-rows) → x ≡ r → x ≡ (reach_says TableLength c.args.piece.offset c.args.piece.rest.now (values_from + 1)
    and_then count_says TableCount c.args.piece.offset c.args.piece.rest.now values_from 1 most_values
    and_then reach_says TableLength c.args.piece.offset c.args.piece.rest.now (choices_from + 1)
    and_then count_says TableCount c.args.piece.offset c.args.piece.rest.now choices_from 0 most_choices
    and_then reach_says TableLength c.args.piece.offset c.args.piece.rest.now (initial_count_from + 1)
    and_then count_says TableCount c.args.piece.offset c.args.piece.rest.now initial_count_from 0 most_initial
    and_then r)
past_rows c e =
    goes _ _ _ c.in_ok-reaches.ensures
    (goes _ _ _ (given_ok _ _ _ c.in_ok-values.ensures).0
    (goes _ _ _ c.in_ok-reaches-2.ensures
    (goes _ _ _ (given_ok _ _ _ c.in_ok-choices.ensures).0 (goes _ _ _ c.in_ok-reaches-3.ensures (goes _ _ _ (given_ok _ _ _ c.in_ok-rows.ensures).0 e)))))

-- the shape and the count of the initial rows are those of the definition, and so is the length
module _ (c : After-is_long) where
  initials : {A : Type 0} (f : Shape → ℕ → A) → f c.over_values-shape.result c.from-count.result ≡ f (over_values (heading_shape c.args.piece.rest.now)) (byte_at c.args.piece.rest.now initial_count_from)
  initials f =
      ap (λ (z : Shape). f z c.from-count.result) (c.over_values-shape.ensures ∙ ap (λ (k : ℕ). over_values (record { values = k; choices = 0 })) (given_ok _ _ _ c.in_ok-values.ensures).1)
      ∙ ap (f (over_values (heading_shape c.args.piece.rest.now))) (c.from-count.ensures ∙ (given_ok _ _ _ c.in_ok-rows.ensures).1)

  long : long_says TableLength c.args.piece.offset c.args.piece.rest.now (initial_from + c.stride.result * c.from-count.result) ≡ long_says TableLength c.args.piece.offset c.args.piece.rest.now (heading_length c.args.piece.rest.now)
  long =
      ap (long_says TableLength c.args.piece.offset c.args.piece.rest.now)
      (ap (λ (k : ℕ). initial_from + k * c.from-count.result) c.stride.ensures ∙ initials (λ (z : Shape) (k : ℕ). initial_from + stride z * k))

pub returns-in_err-reaches : goal.returns-in_err-reaches
unfolding heading_says
returns-in_err-reaches c =
    let p = err_from_is_err_and c.from_residual.result c.from_residual.ensures.1 in
    rw (p.1, p.2) (given_fault _ _ _ (stops _ _ _ c.in_err-reaches.ensures))

pub returns-in_err-values : goal.returns-in_err-values
unfolding heading_says
returns-in_err-values c =
    let p = err_from_is_err_and c.from_residual-in_err-values.result c.from_residual-in_err-values.ensures.1 in
    rw (p.1, p.2) (given_fault _ _ _ (goes _ _ _ c.in_ok-reaches.ensures (stops _ _ _ (given_err _ _ _ c.in_err-values.ensures))))

pub returns-in_err-reaches-2 : goal.returns-in_err-reaches-2
unfolding heading_says
returns-in_err-reaches-2 c =
    let p = err_from_is_err_and c.from_residual-in_err-reaches-2.result c.from_residual-in_err-reaches-2.ensures.1 in
    rw (p.1, p.2) (given_fault _ _ _ (goes _ _ _ c.in_ok-reaches.ensures (goes _ _ _ (given_ok _ _ _ c.in_ok-values.ensures).0 (stops _ _ _ c.in_err-reaches-2.ensures))))

pub returns-in_err-choices : goal.returns-in_err-choices
unfolding heading_says
returns-in_err-choices c =
    let p = err_from_is_err_and c.from_residual-in_err-choices.result c.from_residual-in_err-choices.ensures.1 in
    rw (p.1, p.2) (given_fault _ _ _ (goes _ _ _ c.in_ok-reaches.ensures (goes _ _ _ (given_ok _ _ _ c.in_ok-values.ensures).0 (goes _ _ _ c.in_ok-reaches-2.ensures (stops _ _ _ (given_err _ _ _ c.in_err-choices.ensures))))))

pub returns-in_err-reaches-3 : goal.returns-in_err-reaches-3
unfolding heading_says
returns-in_err-reaches-3 c =
    let p = err_from_is_err_and c.from_residual-in_err-reaches-3.result c.from_residual-in_err-reaches-3.ensures.1 in
    rw (p.1, p.2) (given_fault _ _ _ (goes _ _ _ c.in_ok-reaches.ensures (goes _ _ _ (given_ok _ _ _ c.in_ok-values.ensures).0 (goes _ _ _ c.in_ok-reaches-2.ensures (goes _ _ _ (given_ok _ _ _ c.in_ok-choices.ensures).0 (stops _ _ _ c.in_err-reaches-3.ensures))))))

pub returns-in_err-rows : goal.returns-in_err-rows
unfolding heading_says
returns-in_err-rows c =
    let p = err_from_is_err_and c.from_residual-in_err-rows.result c.from_residual-in_err-rows.ensures.1 in
    rw (p.1, p.2) (given_fault _ _ _ (goes _ _ _ c.in_ok-reaches.ensures (goes _ _ _ (given_ok _ _ _ c.in_ok-values.ensures).0 (goes _ _ _ c.in_ok-reaches-2.ensures (goes _ _ _ (given_ok _ _ _ c.in_ok-choices.ensures).0 (goes _ _ _ c.in_ok-reaches-3.ensures (stops _ _ _ (given_err _ _ _ c.in_err-rows.ensures))))))))

pub returns-in_err-is_long : goal.returns-in_err-is_long
unfolding heading_says
returns-in_err-is_long c =
    let p = err_from_is_err_and c.from_residual-in_err-is_long.result c.from_residual-in_err-is_long.ensures.1 in
    let at = goal.at.returns-in_err-is_long c in
    rw (p.1, p.2) (given_fault _ _ _ (past_rows at.In_ok-rows (stops _ _ _ (c.in_err-is_long.ensures ∙ long at.After-is_long))))

pub returns-in_err-start : goal.returns-in_err-start
unfolding heading_says
returns-in_err-start c =
    let p = err_from_is_err_and c.from_residual-in_err-start.result c.from_residual-in_err-start.ensures.1 in
    let at = goal.at.returns-in_err-start c in
    rw (p.1, p.2) (given_fault _ _ _ (past_rows at.In_ok-rows (goes _ _ _ (c.in_ok-is_long.ensures ∙ long at.After-is_long) (stops _ _ _ (given_err _ _ _ c.in_err-start.ensures)))))

pub returns-in_err-initial : goal.returns-in_err-initial
unfolding heading_says
returns-in_err-initial c =
    let p = err_from_is_err_and c.from_residual-in_err-initial.result c.from_residual-in_err-initial.ensures.1 in
    let at = goal.at.returns-in_err-initial c in
    let q = initials at.After-is_long (λ (z : Shape) (k : ℕ). rows_say TableWritten z c.args.piece.offset c.args.piece.rest.now initial_from k) in
    rw (p.1, p.2) (given_fault _ _ _ (past_rows at.In_ok-rows (goes _ _ _ (c.in_ok-is_long.ensures ∙ long at.After-is_long) (goes _ _ _ (given_ok _ _ _ c.in_ok-start.ensures).0 (given_err _ _ _ c.in_err-initial.ensures ∙ q)))))

pub returns : goal.returns
unfolding heading_says
returns c =
    let at = goal.at.returns c in
    let start = given_ok _ _ _ c.in_ok-start.ensures in
    let initial = given_ok _ _ _ c.in_ok-initial.ensures in
    let q = initials at.After-is_long (λ (z : Shape) (k : ℕ). rows_say TableWritten z c.args.piece.offset c.args.piece.rest.now initial_from k) in
    given _ _ _ (past_rows at.In_ok-rows (goes _ _ _ (c.in_ok-is_long.ensures ∙ long at.After-is_long) (goes _ _ _ start.0 (initial.0 ∙ q))))
    (same_heading (given_ok _ _ _ c.in_ok-values.ensures).1 (given_ok _ _ _ c.in_ok-choices.ensures).1 start.1
    (initial.1 ∙ initials at.After-is_long (λ (z : Shape) (k : ℕ). rows_at z c.args.piece.rest.now initial_from k)))
