use Rattle.std.proofs.Common.{ℤ, ◌-ℤ◌, sym, ap, subst, w64, SFits, rules}
use Rattle.rows.specs.declared.limits.Limit.TheVariants.{WrittenNumber}
use Rattle.rows.specs.declared.numbers.Numbers.{Numbers}
use Rattle.rows.specs.Limits.{columns, magnitude_of}
use Rattle.rows.proofs.Bounds.{Bounded}
use Rattle.records.specs.Bounded.{listed}
use Rattle.records.specs.Records.{row_of}
use Rattle.obligations.specs.Goals.{sum_limit}
use Rattle.obligations.proofs.GoalBounds.{item_bounded, combined_bounded, addends, worked_out}
use Rattle.obligations.proofs.goals.lowered_bound.Goals as goal

pub lowered_by-requires : goal.lowered_by-requires
lowered_by-requires g c =
    let row = c.args.row.now in
    addends _ _ (subst (Bounded (magnitude_of WrittenNumber)) (sym (ap (λ (n : Numbers). n.bound) c.numbers.ensures)) (item_bounded (magnitude_of WrittenNumber) (row_of row) columns row.held))
    (subst (Bounded sum_limit) (sym c.combined.ensures) (combined_bounded row c.args.from g.row.N (listed c.args.expressions.now) columns c.requires))

pub returns : goal.returns
returns g c =
    let fr : SFits w64 c.lowered_by.result = search rules in
    let fa : SFits w64 c.numbers.result.now.bound = search rules in
    let fb : SFits w64 c.combined.result = search rules in
    worked_out (λ (x y : ℤ). x -ℤ y) _ _ _ _ _ fr fa fb c.lowered_by.ensures (ap (λ (n : Numbers). n.bound) c.numbers.ensures) c.combined.ensures
