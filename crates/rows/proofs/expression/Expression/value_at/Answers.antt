use Rattle.std.proofs.Common.{arith, lit<, lit≤}
use Rattle.rows.specs.declared.limits.Limit.TheVariants.{WrittenNumber}
use Rattle.rows.specs.Limits.{columns, magnitude_of}
use Rattle.rows.specs.Points.{dot_limit}
use Rattle.rows.proofs.Bounds.{bounded, passed_bounded}
use Rattle.rows.proofs.expression.Expression.value_at.Goals as goal

pub raised_by-requires-clause-constant : goal.raised_by-requires-clause-constant
raised_by-requires-clause-constant c =
    let k = bounded (magnitude_of WrittenNumber) c.args.self.now.constant (c.args.self.now.held columns (omega arith)) in
    passed_bounded (magnitude_of WrittenNumber) dot_limit _ (lit≤ tt) (lit< tt) k
