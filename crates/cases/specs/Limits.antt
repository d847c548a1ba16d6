-- The limits of the calls, each stated once.
use Rattle.std.specs.Prelude.{ℕ}

-- the greatest number of steps that a case makes
abbrev pub most_steps : ℕ
most_steps = 1000000

-- the least rows of a fact sheet for a prove
abbrev pub least_rows : ℕ
least_rows = 32

-- the greatest number of steps that are unrolled
abbrev pub most_unrolled : ℕ
most_unrolled = 1000
