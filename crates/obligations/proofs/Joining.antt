-- The point of a state and of choices: the two lists written into one memory, and its numbers within the limit.
use Rattle.std.proofs.Common.{◌≡◌, ℕ, ◌+◌, ◌-◌, List, ◌++◌, length, drop, ℤ, pos, Some, None, Option, refl, ap, ◌∙◌, subst, inl, inr, arith, IsSome}
use borrow.Rule.Slice.PartMut.{put_mid}
use Rattle.std.proofs.lemmas.List.{take_at, drop_at, drop_all, append-nil, get_or_append_left, get_or-append_right}
use Rattle.std.proofs.lemmas.Bool.{cases_lt}
use Rattle.rows.specs.declared.values.Values.{Values}
use Rattle.rows.specs.Limits.{magnitude_of, within}
use Rattle.rows.specs.Points.{WithinFirst}
use Rattle.rows.specs.PointsMade.{ValuesFrom}
use Rattle.rows.specs.declared.limits.Limit.TheVariants.{StateValue}

-- a front is kept, and what stood behind it is overwritten
pub overwritten : {X : Type 0} (n k : ℕ) (front rest ys : List X) → length front ≡ n → length rest ≡ k → put_mid n k (front ++ rest) ys ≡ front ++ ys
overwritten n k front rest ys f r =
    let t = take_at front rest n f in
    let d : drop k (drop n (front ++ rest)) ≡ drop k rest = ap (drop k) (drop_at front rest n f) in
    ap (λ (zs : List _). zs ++ (ys ++ drop k (drop n (front ++ rest)))) t
    ∙ ap (λ (zs : List _). front ++ (ys ++ zs)) (d ∙ drop_all k rest (omega arith))
    ∙ ap (λ (zs : List _). front ++ zs) (append-nil ys)

pub joined_within : (n m most : ℕ) (xs ys : List ℤ) → length xs ≡ n → WithinFirst n most xs → WithinFirst m most ys → WithinFirst (n + m) most (xs ++ ys)
joined_within n m most xs ys l f g k h =
    elim (cases_lt k n) [
      | inl lt ↦ ap (within most) (get_or_append_left xs ys (pos 0) k (omega arith)) ∙ f k lt
      | inr le ↦ ap (within most) (get_or-append_right xs ys n k (pos 0) l le) ∙ g (k - n) (omega arith)
    ]

-- numbers within the limit are made values
pub made : (n : ℕ) (xs : List ℤ) (r : Option (Values n)) → ValuesFrom n xs r → WithinFirst n (magnitude_of StateValue) xs → IsSome r
made n xs (Some x) h w = refl
made n xs None h w = absurd (h w)

pub made_of : (n : ℕ) (xs : List ℤ) (r : Option (Values n)) (x : Values n) → ValuesFrom n xs r → r ≡ Some x → x.values ≡ xs
made_of n xs r x h e = (subst (ValuesFrom n xs) e h).0
