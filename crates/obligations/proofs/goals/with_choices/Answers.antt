use Rattle.std.proofs.Common.{pos, sym, ◌∙◌, subst, w64, SFits, rules}
use Rattle.std.proofs.lemmas.Int.{to_z-of_z}
use Rattle.rows.specs.declared.limits.Limit.TheVariants.{RowNumber}
use Rattle.rows.specs.Limits.{columns, magnitude_of}
use Rattle.rows.specs.Shapes.{Within}
use Rattle.rows.proofs.Items.{same_numbers}
use Rattle.records.specs.Records.{row_of, inner_of}
use Rattle.semantics.specs.Goals.{kept_or_zero}
use Rattle.semantics.specs.Laws.{ChoiceGoal}
use Rattle.semantics.proofs.GoalsMet.{choice_goal}
use Rattle.obligations.proofs.MadeArrays.{values_made}
use Rattle.obligations.proofs.GoalBounds.{with_choices_within}
use Rattle.obligations.proofs.goals.with_choices.Goals as goal

pub returns : goal.returns
returns c =
    let f : SFits w64 c.lowered_bound-bound.result = search rules in
    let e = same_numbers _ _ _ _ (values_made (kept_or_zero (row_of c.args.row.now) (inner_of c.args.inner.now).choices) (λ i y q k. search rules) c.from_fn-coefficients.result columns (pos 0) c.from_fn-coefficients.ensures.items) (to_z-of_z w64 _ f ∙ c.lowered_bound-bound.ensures) in
    record {
      value = e;
      held = subst (Within (magnitude_of RowNumber)) (sym e) (with_choices_within c.args.inner.now c.args.row.now);
      carried = subst (ChoiceGoal (inner_of c.args.inner.now) (row_of c.args.row.now)) (sym e) (choice_goal (inner_of c.args.inner.now) (row_of c.args.row.now));
    }
