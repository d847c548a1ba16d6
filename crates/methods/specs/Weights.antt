-- Two-byte numbers of a certificate, their ranges, and the weighted sum of facts.
use Rattle.std.specs.Prelude.{ℕ, ◌+◌, ◌&&◌, List, [], ◌∷◌, ℤ, pos, ◌+ℤ◌, ◌*ℤ◌, Ok, nat_le}
use Rattle.rows.specs.declared.fault.FaultKind.TheVariants.{MultiplierRange}
use Rattle.rows.specs.declared.numbers.Numbers.{Numbers}
use Rattle.rows.specs.Faults.{Said, fault_of, ◌and_then◌, check}
use Rattle.rows.specs.Bytes.{word_at}
use Rattle.rows.specs.Shapes.{item_of}

-- the greatest multiplier, and the greatest divisor
abbrev pub most_weight : ℕ
most_weight = 10000

-- the number there lies between `least` and the greatest multiplier
abbrev pub range_says : ℕ → List ℕ → ℕ → Said
range_says least bytes at = check (nat_le least (word_at bytes at) && nat_le (word_at bytes at) most_weight) (fault_of MultiplierRange at 0 0)

-- one multiplier for each fact, from `at` on, each in range
abbrev pub weights_say : List ℕ → ℕ → List Numbers → Said
weights_say bytes at [] = Ok tt
weights_say bytes at (fact ∷ facts) = range_says 0 bytes at and_then weights_say bytes (at + 2) facts

-- the sum of multiplier × the facts' number of an item, the multipliers standing from `at` on
abbrev pub weighted : ℕ → List ℕ → ℕ → List Numbers → ℤ
weighted item bytes at [] = pos 0
weighted item bytes at (fact ∷ facts) = pos (word_at bytes at) *ℤ item_of fact item +ℤ weighted item bytes (at + 2) facts
