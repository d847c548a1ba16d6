-- The row of zeros.
use Rattle.std.specs.Prelude.{replicate, pos}
use Rattle.rows.specs.declared.numbers.Numbers.{Numbers}
use Rattle.rows.specs.Limits.{columns}

abbrev pub zero_numbers : Numbers
zero_numbers = record { coefficients = replicate columns (pos 0); bound = pos 0 }
