-- What is made of a caller's numbers as an expression: the one with exactly these where all are written numbers, else
-- the item of the first that is not, the constant counting as a bound.
use Rattle.std.specs.Prelude.{◌≡◌, List, ℤ, Ok, Err, Result}
use Rattle.rows.specs.declared.expression.Expression.{Expression}
use Rattle.rows.specs.declared.limits.Limit.TheVariants.{WrittenNumber}
use Rattle.rows.specs.declared.numbers.Numbers.{Numbers}
use Rattle.rows.specs.declared.numbers.TooLarge.{TooLarge}
use Rattle.rows.specs.Limits.{magnitude_of}
use Rattle.rows.specs.Made.{FirstOver}
use Rattle.rows.specs.Shapes.{Within}

abbrev numbers : List ℤ → ℤ → Numbers
numbers cs constant = record { coefficients = cs; bound = constant }

abbrev pub ExpressionFrom : List ℤ → ℤ → Result Expression TooLarge → Type 0
ExpressionFrom cs constant (Ok x) = (x.coefficients ≡ cs) × (x.constant ≡ constant) × Within (magnitude_of WrittenNumber) (numbers cs constant)
ExpressionFrom cs constant (Err e) = FirstOver (magnitude_of WrittenNumber) (numbers cs constant) e.item
