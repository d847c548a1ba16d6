-- Equality of whole numbers as a test, also of two numbers that the code compares by their bits.
use Rattle.std.proofs.Common.{◌≡◌, Bool, true, false, not, List, [], ◌∷◌, ℤ, pos, negsuc, Decides, sym, refl, ap, ◌∙◌, inl, inr, w64, SFits, to_z, of_z}
use Rattle.std.proofs.lemmas.Int.{to_z-of_z}
use Rattle.std.proofs.lemmas.Bool.{cases_Bool, and_parts}
use Rattle.std.proofs.lemmas.Bool.Decides.{Decides-eqb, Decides-int_eq, same_from_decides}
use Rattle.std.proofs.lemmas.Slice.Eq.{slice_eq-Decides}
use Rattle.std.specs.Cmp.Lexicographic.{pointwise}
use Rattle.std.specs.Ordering.{int_eq}
use Rattle.rows.specs.Wholes.{int_eq_test, alike}

pub int_eq_test-decides : (a b : ℤ) → Decides (int_eq_test a b) (a ≡ b)
int_eq_test-decides (pos a) (pos b) = (λ e. ap pos ((Decides-eqb a b).0 e), λ e. (Decides-eqb a b).1 (cc))
int_eq_test-decides (pos a) (negsuc b) = (λ e. cc, λ e. cc)
int_eq_test-decides (negsuc a) (pos b) = (λ e. cc, λ e. cc)
int_eq_test-decides (negsuc a) (negsuc b) = (λ e. ap negsuc ((Decides-eqb a b).0 e), λ e. (Decides-eqb a b).1 (cc))

pub alike_decides : (xs ys : List ℤ) → Decides (alike xs ys) (xs ≡ ys)
alike_decides [] [] = (λ e. refl, λ e. refl)
alike_decides [] (y ∷ ys) = (λ e. cc, λ e. cc)
alike_decides (x ∷ xs) [] = (λ e. cc, λ e. cc)
alike_decides (x ∷ xs) (y ∷ ys) = (
  λ e. let p = and_parts (int_eq_test x y) (alike xs ys) e in
      let h = (int_eq_test-decides x y).0 p.0 in
      let t = (alike_decides xs ys).0 p.1 in cc,
  λ e. let h : x ≡ y = cc in
      let t : xs ≡ ys = cc in
      let a = (int_eq_test-decides x y).1 h in
      let b = (alike_decides xs ys).1 t in rw (a, b),
)

-- what `==` on two arrays answers
pub alike_is : (xs ys : List ℤ) (r : Bool) → r ≡ pointwise int_eq xs ys → r ≡ alike xs ys
alike_is xs ys r m = same_from_decides r (alike xs ys) (slice_eq-Decides Decides-int_eq xs ys r m) (alike_decides xs ys)

-- the code compares a and b, which are p and q, by their bits
pub bits_same : (a b p q : ℤ) → SFits w64 a → SFits w64 b → of_z w64 a ≡ of_z w64 b → a ≡ p → b ≡ q → not (int_eq_test p q) ≡ false
bits_same a b p q fa fb e ap' bq =
    ap not ((int_eq_test-decides p q).1 (sym ap' ∙ (sym (to_z-of_z w64 a fa) ∙ ap (to_z w64) e ∙ to_z-of_z w64 b fb) ∙ bq))

pub bits_differ : (a b p q : ℤ) → (of_z w64 a ≡ of_z w64 b → ⊥) → a ≡ p → b ≡ q → not (int_eq_test p q) ≡ true
bits_differ a b p q n ap' bq =
    elim (cases_Bool (int_eq_test p q)) [ inl t ↦ absurd (n (ap (of_z w64) (ap' ∙ (int_eq_test-decides p q).0 t ∙ sym bq))) | inr f ↦ ap not f ]
