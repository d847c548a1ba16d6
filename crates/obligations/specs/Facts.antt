-- How many facts an obligation has at most.
use Rattle.std.specs.Prelude.{ℕ}

abbrev pub most_facts : ℕ
most_facts = 12
