-- What is made of a caller's values: the one with exactly these where all lie within the limit, else none.
use Rattle.std.specs.Prelude.{◌≡◌, ℕ, List, ℤ, Some, None, Option}
use Rattle.rows.specs.declared.limits.Limit.TheVariants.{StateValue}
use Rattle.rows.specs.declared.values.Values.{Values}
use Rattle.rows.specs.Limits.{magnitude_of}
use Rattle.rows.specs.Points.{WithinFirst}

abbrev pub ValuesFrom : (n : ℕ) → List ℤ → Option (Values n) → Type 0
ValuesFrom n values (Some x) = (x.values ≡ values) × WithinFirst n (magnitude_of StateValue) values
ValuesFrom n values None = WithinFirst n (magnitude_of StateValue) values → ⊥
