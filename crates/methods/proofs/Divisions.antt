-- Division rounded down and its remainder: a whole number is the divisor times the quotient, and the remainder.
use Rattle.std.proofs.Common.{◌≡◌, ℕ, ◌<◌, true, false, not, ℤ, pos, negsuc, ◌+ℤ◌, ◌*ℤ◌, ap, inl, inr, mod-lt, arith}
use native.Mathlib.Nat.{div-add-mod}
use Rattle.std.proofs.lemmas.Int.{ints}
use Rattle.std.proofs.lemmas.Bool.{cases_Bool}
use Rattle.std.specs.Int.{int_rem_euclid}
use Rattle.rows.specs.Wholes.{int_eq_test}
use Rattle.rows.proofs.Equalities.{int_eq_test-decides}
use Rattle.methods.specs.Cuts.{floor_div}

pub euclid : (z : ℤ) (d : ℕ) → 0 < d → pos d *ℤ floor_div z d +ℤ int_rem_euclid z (pos d) ≡ z
euclid (pos n) d l = let h = div-add-mod n d in omega (arith, ints, h)
euclid (negsuc n) d l =
    let h = div-add-mod n d in
    let m = mod-lt n l in
    omega (arith, ints, h, m)

-- the test on the remainder is that on the quotient
pub divisible : (z : ℤ) (d : ℕ) → 0 < d → int_rem_euclid z (pos d) ≡ pos 0 → not (int_eq_test (pos d *ℤ floor_div z d) z) ≡ false
divisible z d l e =
    let h = euclid z d l in
    ap not ((int_eq_test-decides (pos d *ℤ floor_div z d) z).1 (omega (arith, ints, h, e)))

pub not_divisible : (z : ℤ) (d : ℕ) → 0 < d → (int_rem_euclid z (pos d) ≡ pos 0 → ⊥) → not (int_eq_test (pos d *ℤ floor_div z d) z) ≡ true
not_divisible z d l n =
    let h = euclid z d l in
    elim (cases_Bool (int_eq_test (pos d *ℤ floor_div z d) z)) [
      | inl t ↦ let e = (int_eq_test-decides (pos d *ℤ floor_div z d) z).0 t in absurd (n (omega (arith, ints, h, e)))
      | inr f ↦ ap not f
    ]
