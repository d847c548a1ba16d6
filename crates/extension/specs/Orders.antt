-- Proofs, and nothing to believe: a test of order that came out true, as the order itself.
use Rattle.std.specs.Prelude.{◌≡◌, true, ℤ, ◌≤ℤ◌, int_le}
use Rattle.std.proofs.Common.{arith}
use Rattle.std.proofs.lemmas.Int.{ints}

pub le_from : (a b : ℤ) → int_le a b ≡ true → a ≤ℤ b
le_from a b e = omega (arith, ints)
