use Rattle.std.proofs.Common.{pos, sym, ◌∙◌, subst, w64, SFits, rules}
use Rattle.std.proofs.lemmas.Int.{to_z-of_z}
use Rattle.rows.specs.declared.limits.Limit.TheVariants.{RowNumber}
use Rattle.rows.specs.Limits.{columns, magnitude_of}
use Rattle.rows.specs.Shapes.{Within}
use Rattle.rows.proofs.Items.{same_numbers}
use Rattle.records.specs.Bounded.{plain_list}
use Rattle.records.specs.Limits.{most_values}
use Rattle.records.specs.Records.{row_of, expression_of, transition_of}
use Rattle.semantics.specs.Goals.{combined}
use Rattle.semantics.specs.Laws.{UpdateGoal}
use Rattle.semantics.proofs.GoalsMet.{update_goal}
use Rattle.obligations.proofs.MadeArrays.{values_made}
use Rattle.obligations.proofs.GoalBounds.{after_update_within}
use Rattle.obligations.proofs.goals.after_update.Goals as goal

pub returns : goal.returns
returns c =
    let f : SFits w64 c.lowered_bound-bound.result = search rules in
    let e = same_numbers _ _ _ _ (values_made (combined (row_of c.args.row.now) 0 most_values (plain_list expression_of c.args.transition.now.updates)) (λ i y q k. search rules) c.from_fn-coefficients.result columns (pos 0) c.from_fn-coefficients.ensures.items) (to_z-of_z w64 _ f ∙ c.lowered_bound-bound.ensures) in
    record {
      value = e;
      held = subst (Within (magnitude_of RowNumber)) (sym e) (after_update_within c.args.transition.now c.args.row.now);
      carried = subst (UpdateGoal (transition_of c.args.transition.now) (row_of c.args.row.now)) (sym e) (update_goal (transition_of c.args.transition.now) (row_of c.args.row.now));
    }
