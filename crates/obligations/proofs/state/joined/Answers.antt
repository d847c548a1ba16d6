use Rattle.std.proofs.Common.{◌≡◌, ◌+◌, List, [], ◌∷◌, ◌++◌, length, ℤ, pos, sym, refl, ap, ◌∙◌, subst}
use borrow.Rule.Slice.PartMut.{put_mid}
use Rattle.rows.specs.declared.limits.Limit.TheVariants.{StateValue}
use Rattle.rows.specs.Limits.{magnitude_of}
use Rattle.rows.specs.Points.{WithinFirst}
use Rattle.records.specs.Limits.{most_values, most_choices}
use Rattle.obligations.proofs.Joining.{overwritten, joined_within, made, made_of}
use Rattle.obligations.proofs.state.joined.Goals as goal
use Rattle.obligations.proofs.state.joined.Goals.{After-copy_from_slice-2}

-- what the memory holds after both copies
both : (c : After-copy_from_slice-2) → put_mid most_values most_choices (c.copy_from_slice.new.self ++ pos 0 ∷ pos 0 ∷ []) c.copy_from_slice-2.new.self ≡ c.args.state.now.values ++ c.args.choices.now.values
both c =
    overwritten most_values most_choices _ _ _ c.copy_from_slice.ensures.len refl
    ∙ ap (λ (xs : List ℤ). xs ++ c.copy_from_slice-2.new.self) (c.copy_from_slice.ensures.after ∙ c.values.ensures)
    ∙ ap (λ (ys : List ℤ). c.args.state.now.values ++ ys) (c.copy_from_slice-2.ensures.after ∙ c.values-2.ensures)

pub unwrap-requires : goal.unwrap-requires
unwrap-requires c =
    made (most_values + most_choices) _ c.new.result c.new.ensures
    (subst (WithinFirst (most_values + most_choices) (magnitude_of StateValue)) (sym (both (goal.at.unwrap-requires c).After-copy_from_slice-2))
    (joined_within most_values most_choices (magnitude_of StateValue) c.args.state.now.values c.args.choices.now.values (sym (ap length (c.copy_from_slice.ensures.after ∙ c.values.ensures)) ∙ c.copy_from_slice.ensures.len) c.args.state.now.held c.args.choices.now.held))

pub returns : goal.returns
returns c = made_of (most_values + most_choices) _ c.new.result c.unwrap.result c.new.ensures c.unwrap.ensures ∙ both (goal.at.returns c).After-copy_from_slice-2
