-- The numbers that stand where a list has no element.
use Rattle.std.specs.Prelude.{[], pos}
use Rattle.rows.specs.declared.numbers.Numbers.{Numbers}

abbrev pub no_numbers : Numbers
no_numbers = record { coefficients = []; bound = pos 0 }
