-- Elements of lists that are joined, mapped, counted and gathered, and places that lie within a list.
use Rattle.std.proofs.Common.{◌≡◌, ℕ, zero, suc, ◌+◌, ◌<◌, ◌≤◌, ◌⊎◌, List, [], ◌∷◌, ◌++◌, map, length, Some, sym, refl, ap, subst, inl, inr, arith}
use Rattle.std.proofs.lemmas.Bool.{cases_eq}
use Rattle.std.specs.List.{range_with_len}
use Rattle.records.specs.Lists.{at}
use Rattle.semantics.specs.Enumerated.{gathered}
use Rattle.semantics.specs.Runs.{Member}
use Rattle.semantics.proofs.Members.{none_some}

-- a place within a list
pub at_within : {X : Type 0} (xs : List X) (i : ℕ) (x : X) → at i xs ≡ Some x → i < length xs
at_within [] zero x e = none_some x e
at_within [] (suc i) x e = none_some x e
at_within (y ∷ ys) zero x e = omega arith
at_within (y ∷ ys) (suc i) x e = let l = at_within ys i x e in omega arith

pub within_at : {X : Type 0} (xs : List X) (i : ℕ) → i < length xs → (x : X) × (at i xs ≡ Some x)
within_at [] i l = absurd (omega arith)
within_at (y ∷ ys) zero l = (y, refl)
within_at (y ∷ ys) (suc i) l = within_at ys i (omega arith)

-- in one list or another behind it
pub member_left : {X : Type 0} (xs ys : List X) (x : X) → Member x xs → Member x (xs ++ ys)
member_left [] ys x m = absurd m
member_left (z ∷ zs) ys x (inl e) = inl e
member_left (z ∷ zs) ys x (inr m) = inr (member_left zs ys x m)

pub member_right : {X : Type 0} (xs ys : List X) (x : X) → Member x ys → Member x (xs ++ ys)
member_right [] ys x m = m
member_right (z ∷ zs) ys x m = inr (member_right zs ys x m)

pub member_either : {X : Type 0} (xs ys : List X) (x : X) → Member x (xs ++ ys) → Member x xs ⊎ Member x ys
member_either [] ys x m = inr m
member_either (z ∷ zs) ys x (inl e) = inl (inl e)
member_either (z ∷ zs) ys x (inr m) = elim (member_either zs ys x m) [ inl h ↦ inl (inr h) | inr h ↦ inr h ]

-- among a function's values
pub member_map : {X Y : Type 0} (f : X → Y) (xs : List X) (x : X) → Member x xs → Member (f x) (map f xs)
member_map f [] x m = absurd m
member_map f (z ∷ zs) x (inl e) = inl (ap f e)
member_map f (z ∷ zs) x (inr m) = inr (member_map f zs x m)

pub mapped_member : {X Y : Type 0} (f : X → Y) (xs : List X) (y : Y) → Member y (map f xs) → (x : X) × Member x xs × (f x ≡ y)
mapped_member f [] y m = absurd m
mapped_member f (z ∷ zs) y (inl e) = (z, inl refl, e)
mapped_member f (z ∷ zs) y (inr m) = let r = mapped_member f zs y m in (r.0, inr r.1, r.2)

-- among the lists that elements give
pub member_gathered : {X Y : Type 0} (f : X → List Y) (xs : List X) (x : X) (y : Y) → Member x xs → Member y (f x) → Member y (gathered f xs)
member_gathered f [] x y m k = absurd m
member_gathered f (z ∷ zs) x y (inl e) k = member_left (f z) (gathered f zs) y (subst (λ v. Member y (f v)) (sym e) k)
member_gathered f (z ∷ zs) x y (inr m) k = member_right (f z) (gathered f zs) y (member_gathered f zs x y m k)

pub gathered_member : {X Y : Type 0} (f : X → List Y) (xs : List X) (y : Y) → Member y (gathered f xs) → (x : X) × Member x xs × Member y (f x)
gathered_member f [] y m = absurd m
gathered_member f (z ∷ zs) y m =
    elim (member_either (f z) (gathered f zs) y m) [
      | inl h ↦ (z, inl refl, h)
      | inr h ↦ let r = gathered_member f zs y h in (r.0, inr r.1, r.2)
    ]

-- among numbers that are counted
pub member_counting : (a n k : ℕ) → a ≤ k → k < a + n → Member k (range_with_len a n)
member_counting a zero k l h = absurd (omega arith)
member_counting a (suc n) k l h =
    elim (cases_eq a k) [
      | inl e ↦ inl e
      | inr d ↦ inr (member_counting (a + 1) n k (omega arith) (omega arith))
    ]

pub counting_member : (a n k : ℕ) → Member k (range_with_len a n) → k < a + n
counting_member a zero k m = absurd m
counting_member a (suc n) k (inl e) = omega arith
counting_member a (suc n) k (inr m) = let l = counting_member (a + 1) n k m in omega arith

-- a function's values at 0, 1 and so on
pub member_each : {Y : Type 0} (f : ℕ → Y) (n k : ℕ) → k < n → Member (f k) (map f (range_with_len 0 n))
member_each f n k l = member_map f (range_with_len 0 n) k (member_counting 0 n k (omega arith) (omega arith))

pub each_member : {Y : Type 0} (f : ℕ → Y) (n : ℕ) (y : Y) → Member y (map f (range_with_len 0 n)) → (k : ℕ) × (k < n) × (f k ≡ y)
each_member f n y m =
    let r = mapped_member f (range_with_len 0 n) y m in
    let l = counting_member 0 n r.0 r.1 in
    (r.0, omega arith, r.2)
