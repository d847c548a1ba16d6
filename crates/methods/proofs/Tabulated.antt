-- What `from_fn` makes of a closure that computes a function of the index, against the list that the definitions tabulate.
use Rattle.std.proofs.Common.{◌≡◌, ℕ, zero, suc, ◌+◌, ◌<◌, ◌≤◌, List, get_or, ℤ, pos, refl, sym, ap, ◌∙◌, subst, inl, inr, arith}
use Rattle.std.specs.Fn.{Mut, Called}
use Rattle.std.specs.Array.{IsFromFnResult, IsFromFnResultFrom}
use Rattle.std.proofs.lemmas.Bool.{cases_eq}
use Rattle.std.proofs.lemmas.List.{ext_get_or}
use Rattle.methods.specs.Cuts.{tabulate}
use Rattle.methods.specs.CutLaws.{tabulate_length, tabulate-get_or}

module _ {F : Type 0} (g : Mut F (ℕ × Unit {0}) ℤ) (f : F) (h : ℕ → ℤ) (computes : (i : ℕ) (y : ℤ) (q : F) → Called g f (i, tt) y q → (q ≡ f) × (y ≡ h i)) where
  each : (ys : List ℤ) (n i : ℕ) (p : F) → p ≡ f → IsFromFnResultFrom g p ys i n → (k : ℕ) → i ≤ k → k < i + n → get_or ys k (pos 0) ≡ h k
  each ys zero i p e r k a b = absurd (omega arith)
  each ys (suc n) i p e (q, y, at, call, rest) k a b =
      let c = computes i y q (subst (λ (s : F). Called g s (i, tt) y q) e call) in
      elim (cases_eq k i) [
        | inl s ↦ ap (λ (j : ℕ). get_or ys j (pos 0)) s ∙ at.1 (pos 0) ∙ c.1 ∙ ap h (sym s)
        | inr s ↦ each ys n (i + 1) q c.0 rest k (omega arith) (omega arith)
      ]

  pub tabulated : (ys : List ℤ) (n : ℕ) → IsFromFnResult g f ys n → ys ≡ tabulate h n
  tabulated ys n r =
      ext_get_or (pos 0) ys (tabulate h n) (r.long ∙ sym (tabulate_length h n))
      (λ k l. each ys n 0 f refl r.each k (omega arith) (omega (arith, r.long)) ∙ sym (tabulate-get_or h n k (pos 0) (omega (arith, r.long))))
