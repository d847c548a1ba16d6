-- Arrays that `from_fn` makes: each element is what the closure answers at its index.
use Rattle.std.proofs.Common.{◌≡◌, ℕ, zero, suc, ◌+◌, ◌<◌, ◌≤◌, List, map, length, get_or, sym, ap, ◌∙◌, subst, inl, inr, arith}
use denote.Param.Members.{Mut, Called}
use Rattle.std.proofs.lemmas.Bool.{cases_lt}
use Rattle.std.proofs.lemmas.List.FromFn.{length-map-range_with_len, get_or-map-range_with_len}
use Rattle.std.proofs.lemmas.List.{ext_get_or}
use Rattle.std.specs.Array.{IsFromFnResult, IsFromFnResultFrom}
use Rattle.std.specs.List.{range_with_len}

module _ {F B : Type 0} {g : Mut F (ℕ × Unit {0}) B} {f : F} (h : ℕ → B) (answers : (i : ℕ) (y : B) (q : F) → Called g f (i, tt) y q → (q ≡ f) × (y ≡ h i)) where
  -- from the index i on
  made_from : (ys : List B) (i n : ℕ) → IsFromFnResultFrom g f ys i n → (k : ℕ) (d : B) → i ≤ k → k < i + n → get_or ys k d ≡ h k
  made_from ys i zero m k d l u = absurd (omega arith)
  made_from ys i (suc n) m k d l u =
      let a = answers i m.1 m.0 m.3 in
      elim (cases_lt i k) [
        | inl lt ↦ made_from ys (i + 1) n (subst (λ (q : F). IsFromFnResultFrom g q ys (i + 1) n) a.0 m.4) k d (omega arith) (omega arith)
        | inr le ↦ let e : k ≡ i = omega arith in ap (λ (j : ℕ). get_or ys j d) e ∙ m.2.1 d ∙ a.1 ∙ ap h (sym e)
      ]

  pub array_made : (ys zs : List B) (n : ℕ) (d : B) → IsFromFnResult g f ys n → length zs ≡ n → ((i : ℕ) → i < n → h i ≡ get_or zs i d) → ys ≡ zs
  array_made ys zs n d m l e = ext_get_or d ys zs (m.long ∙ sym l) (λ i b. let c : i < n = omega (arith, m.long) in made_from ys 0 n m.each i d (omega arith) (omega arith) ∙ e i c)

  -- the list of a function's values
  pub values_made : (ys : List B) (n : ℕ) (d : B) → IsFromFnResult g f ys n → ys ≡ map h (range_with_len 0 n)
  values_made ys n d m = array_made ys (map h (range_with_len 0 n)) n d m (length-map-range_with_len h 0 n) (λ i l. sym (get_or-map-range_with_len h 0 n i i d l (omega arith)))
