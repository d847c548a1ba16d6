use Rattle.std.proofs.Common.{get_or, ℤ, pos, ◌+ℤ◌, sym, ap, ◌∙◌, subst, arith, w64, SFits, rules}
use Rattle.std.proofs.lemmas.Bool.{lt-ltb, cond-true}
use Rattle.rows.specs.declared.limits.Limit.TheVariants.{WrittenNumber}
use Rattle.rows.specs.declared.numbers.Numbers.{Numbers}
use Rattle.rows.specs.Limits.{magnitude_of}
use Rattle.rows.proofs.Bounds.{Bounded}
use Rattle.records.specs.Bounded.{listed}
use Rattle.records.specs.Limits.{most_values, most_choices}
use Rattle.semantics.specs.Goals.{coefficient}
use Rattle.obligations.specs.Goals.{sum_limit}
use Rattle.obligations.proofs.GoalBounds.{column_bounded, combined_bounded, addends, worked_out}
use Rattle.obligations.proofs.goals.kept_or_zero.Goals as goal

pub raised_by-requires : goal.raised_by-requires
raised_by-requires c =
    addends _ _ (subst (Bounded (magnitude_of WrittenNumber)) (sym (ap (λ (n : Numbers). coefficient n c.args.column) c.numbers.ensures)) (column_bounded c.args.row.now c.args.column (omega (arith, c.if-column-lt-MOST_VALUES.true))))
    (subst (Bounded sum_limit) (sym c.combined.ensures) (combined_bounded c.args.row.now most_values most_choices (listed c.args.inner.now.choices) c.args.column (omega arith)))

pub returns-then-column-lt-MOST_VALUES : goal.returns-then-column-lt-MOST_VALUES
returns-then-column-lt-MOST_VALUES c =
    let fr : SFits w64 c.raised_by.result = search rules in
    let fa : SFits w64 (get_or c.numbers.result.now.coefficients c.args.column (pos 0)) = search rules in
    let fb : SFits w64 c.combined.result = search rules in
    worked_out (λ (x y : ℤ). x +ℤ y) _ _ _ _ _ fr fa fb c.raised_by.ensures (ap (λ (n : Numbers). coefficient n c.args.column) c.numbers.ensures) c.combined.ensures
    ∙ sym (cond-true _ _ _ (lt-ltb _ _ c.if-column-lt-MOST_VALUES.true))
