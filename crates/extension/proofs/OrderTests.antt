-- An order of whole numbers as the test of it.
use Rattle.std.proofs.Common.{◌≡◌, true, ℤ, ◌≤ℤ◌, arith}
use lib.Signed.{le_z}
use Rattle.std.proofs.lemmas.Int.{ints}

pub le_test : (a b : ℤ) → a ≤ℤ b → le_z a b ≡ true
le_test a b h = grind (arith, ints)
