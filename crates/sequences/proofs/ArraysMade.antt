-- An array that is made by a call at each of its places.
use Rattle.std.proofs.Common.{◌≡◌, ℕ, suc, zero, ◌+◌, ◌<◌, ◌≤◌, List, map, get_or, sym, ◌∙◌, ap, subst, inl, inr, arith}
use Rattle.std.proofs.lemmas.Bool.{cases_eq}
use Rattle.std.proofs.lemmas.List.FromFn.{fill_by_all}
use Rattle.std.specs.Array.{IsFromFnResult, IsFromFnResultFrom}
use Rattle.std.specs.Fn.{Called}
use Rattle.std.specs.List.{range_with_len}
use denote.Param.Members.{Mut}

module _ {F B : Type 0} (g : Mut F (ℕ × Unit {0}) B) (f : F) (h : ℕ → B) (ys : List B) (one : (i : ℕ) (y : B) (q : F) → Called g f (i, tt) y q → (q ≡ f) × (y ≡ h i)) where
  at_each : (n i : ℕ) → IsFromFnResultFrom g f ys i n → (k : ℕ) (d : B) → i ≤ k → k < i + n → get_or ys k d ≡ h k
  at_each zero i r k d l u = absurd (omega arith)
  at_each (suc n) i (q, y, e, c, r) k d l u =
      elim (cases_eq k i) [
        | inl s ↦ ap (λ j. get_or ys j d) s ∙ e.1 d ∙ (one i y q c).1 ∙ ap h (sym s)
        | inr s ↦ at_each n (i + 1) (subst (λ p. IsFromFnResultFrom g p ys (i + 1) n) (one i y q c).0 r) k d (omega arith) (omega arith)
      ]

  pub made_array : (n : ℕ) (d : B) → IsFromFnResult g f ys n → ys ≡ map h (range_with_len 0 n)
  made_array n d r = fill_by_all h ys n d r.long (λ k l. at_each n 0 r.each k d (omega arith) (omega (arith, l)))
