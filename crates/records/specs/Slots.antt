-- How the numbers of a stored row or expression stand in the columns, and how many bytes it takes.
use Rattle.std.specs.Prelude.{ℕ, ◌+◌, ◌-◌, ◌*◌, cond, Some, None, Option, nat_lt}
use Rattle.rows.specs.Limits.{columns}
use Rattle.records.specs.declared.shape.Shape.{Shape}
use Rattle.records.specs.Limits.{most_values}

abbrev pub over_values : Shape → Shape
over_values shape = record { values = shape.values; choices = 0 }

-- the bytes of a number, and of a row or an expression
abbrev pub number_bytes : ℕ
number_bytes = 4

abbrev pub stride : Shape → ℕ
stride shape = number_bytes * (shape.values + shape.choices + 1)

-- which of the stored numbers is that of an item, if one is: the values' columns come first, then the choices', then
-- the bound or constant
abbrev pub slot_of : Shape → ℕ → Option ℕ
slot_of shape item =
    cond (nat_lt item columns)
    (cond (nat_lt item most_values)
    (cond (nat_lt item shape.values) (Some item) None)
    (cond (nat_lt (item - most_values) shape.choices) (Some (shape.values + (item - most_values))) None))
    (Some (shape.values + shape.choices))
