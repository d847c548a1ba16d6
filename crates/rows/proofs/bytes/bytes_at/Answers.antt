use Rattle.std.proofs.Common.{◌≡◌, ℕ, zero, suc, ◌+◌, ◌-◌, ◌^◌, ◌<◌, ◌≤◌, min, List, length, get_or, refl, ap, ◌∙◌, subst, inl, inr, arith, rules}
use Rattle.std.specs.Fn.{Mut, Called}
use Rattle.std.specs.Array.{IsFromFnResultFrom}
use Rattle.std.proofs.lemmas.Bool.{cases_eq}
use Rattle.rows.proofs.Offsets.{byte_capped}
use Rattle.rows.proofs.bytes.bytes_at.Goals as goal

-- each item of what `from_fn` makes is what the closure computes of its index
module _ {F : Type 0} (g : Mut F (ℕ × Unit {0}) ℕ) (f : F) (h : ℕ → ℕ) (computes : (i : ℕ) (y : ℕ) (q : F) → Called g f (i, tt) y q → (q ≡ f) × (y ≡ h i)) where
  each : (ys : List ℕ) (n i : ℕ) (p : F) → p ≡ f → IsFromFnResultFrom g p ys i n → (k : ℕ) → i ≤ k → k < i + n → get_or ys k 0 ≡ h k
  each ys zero i p e r k a b = absurd (omega arith)
  each ys (suc n) i p e (q, y, at, call, rest) k a b =
      let c = computes i y q (subst (λ (s : F). Called g s (i, tt) y q) e call) in
      elim (cases_eq k i) [
        | inl s ↦ ap (λ (j : ℕ). get_or ys j 0) s ∙ at.1 0 ∙ c.1 ∙ ap h (rw s refl)
        | inr s ↦ each ys n (i + 1) q c.0 rest k (omega arith) (omega arith)
      ]

pub returns : goal.returns
returns g c =
    let long : length c.args.bytes.now < 2 ^ 64 = search rules in
    λ k l. each _ _ (λ i. get_or c.args.bytes.now (c.args.at + i) 0) (λ i y q e.
    let s : y ≡ get_or c.args.bytes.now (min (c.args.at + i) (2 ^ 64 - 1)) 0 = search rules in
    (search rules, s ∙ byte_capped c.args.bytes.now c.args.at i long)) c.from_fn.result _ 0 _ refl c.from_fn.ensures.items.each k (omega arith) (omega (arith, l))
