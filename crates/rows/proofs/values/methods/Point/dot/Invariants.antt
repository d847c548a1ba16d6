use Rattle.std.proofs.Common.{◌*◌, length}
use Rattle.rows.specs.declared.limits.Limit.TheVariants.{WrittenNumber, StateValue}
use Rattle.rows.specs.Limits.{magnitude_of}
use Rattle.rows.proofs.Bounds.{Summed}
use Rattle.rows.proofs.values.methods.Point.dot.Given as goal

abbrev pub invariant-loop-coefficient : goal.invariant-loop-coefficient
invariant-loop-coefficient l = Summed (magnitude_of WrittenNumber * magnitude_of StateValue) l.coefficients l.self.values (length l.yielded) l.sum
