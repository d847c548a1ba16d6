-- `map` over an array: which items its closure is asked, and what it gives.
use Rattle.std.proofs.Common.{◌≡◌, ℕ, ◌<◌, List, [], ◌∷◌, ◌++◌, map, length, get_or, sym, refl, ap, ◌∙◌, subst, arith, length-append}
use Rattle.std.proofs.lemmas.List.{same_lists, length-map, get_or-map}
use Rattle.std.specs.Array.{list_steps, IsMapOf}
use Rattle.std.specs.Fn.{Mut, Called}
use Rattle.std.specs.Iterator.{Yields, CallableAtEachTurn}

-- what was yielded stands in front
yielded_front : {A : Type 0} (xs s t : List A) → Yields list_steps s xs t → s ≡ xs ++ t
yielded_front [] s t y = y
yielded_front (x ∷ xs) s t (j, e, y) = e ∙ ap (λ ys. x ∷ ys) (yielded_front xs j t y)

-- a fact of each element holds of each item that the closure is asked
pub asked_each : {A P : Type 0} (R : P → A → P → Type 0) (Q : P → A → Type 0) (s : List A) (p : P) (d : A) → ((q : P) (k : ℕ) → k < length s → Q q (get_or s k d)) → CallableAtEachTurn list_steps R Q s p
asked_each {A} R Q s p d h = record {
  at = λ xs t q x u y c z.
      let e : s ≡ xs ++ x ∷ u = yielded_front xs s t y ∙ ap (λ ys. xs ++ ys) z in
      subst (Q q) (ap (λ ys. get_or ys (length xs) d) e ∙ next xs x u) (h q (length xs) (inside xs x u e));
}
  where
    next : (xs : List A) (x : A) (u : List A) → get_or (xs ++ x ∷ u) (length xs) d ≡ x
    next [] x u = refl
    next (y ∷ ys) x u = next ys x u

    inside : (xs : List A) (x : A) (u : List A) → s ≡ xs ++ x ∷ u → length xs < length s
    inside xs x u e = let n = ap length e ∙ length-append xs (x ∷ u) in omega (arith, n)

-- what the closure gives of each element is the list that the whole gives
pub mapped : {F A B : Type 0} (g : Mut F (A × Unit {0}) B) (f : F) (h : A → B) (xs : List A) (ys : List B) (n : ℕ) (d : A) → length xs ≡ n → IsMapOf g f xs ys n →
    ((p q : F) (k : ℕ) (y : B) → k < n → Called g p (get_or xs k d, tt) y q → y ≡ h (get_or xs k d)) → ys ≡ map h xs
mapped g f h xs ys n d e m each =
    same_lists ys (map h xs) (m.long ∙ sym (length-map xs h ∙ e)) (λ k b l.
    let c = m.at k d b (omega (arith, l, m.long)) in
    each c.0 c.1 k _ (omega (arith, l, m.long)) c.2 ∙ sym (get_or-map h xs k d b (omega (arith, l, e, m.long))))
