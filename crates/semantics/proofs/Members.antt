-- Elements of lists: what holds of each, what stands at a place, and the one with a number where numbers rise.
use Rattle.std.proofs.Common.{◌≡◌, ℕ, zero, suc, ◌<◌, Bool, true, false, cond, eqb, List, [], ◌∷◌, map, Some, None, Option, sym, refl, ap, ◌∙◌, subst, inl, inr, arith}
use Rattle.std.proofs.lemmas.Bool.{eq-eqb, ne_eqb, eqb-true, false≢true, cond-true, cond-false}
use Rattle.std.specs.List.{AllByRecursion}
use Rattle.records.specs.Lists.{at, first_with, among}
use Rattle.formats.specs.Valid.{Rising}
use Rattle.semantics.specs.Runs.{Member}

-- nothing is something, and two somethings that are equal
pub none_some : {X P : Type 0} (x : X) → ◌≡◌ {A = Option X} None (Some x) → P
none_some x e = let z : ◌≡◌ {A = ℕ} 0 1 = cc in absurd (omega arith)

pub same_some : {X : Type 0} (x y : X) → ◌≡◌ {A = Option X} (Some x) (Some y) → x ≡ y
same_some x y e = cc

-- what holds of each element
pub all_member : {X : Type 0} (P : X → Type 0) (xs : List X) (x : X) → AllByRecursion P xs → Member x xs → P x
all_member P [] x a m = absurd m
all_member P (y ∷ ys) x a (inl e) = subst P e a.0
all_member P (y ∷ ys) x a (inr m) = all_member P ys x a.1 m

pub all_from_members : {X : Type 0} (P : X → Type 0) (xs : List X) → ((x : X) → Member x xs → P x) → AllByRecursion P xs
all_from_members P [] f = tt
all_from_members P (x ∷ xs) f = (f x (inl refl), all_from_members P xs (λ y m. f y (inr m)))

-- an element stands at a place
pub at_member : {X : Type 0} (xs : List X) (i : ℕ) (x : X) → at i xs ≡ Some x → Member x xs
at_member [] zero x e = none_some x e
at_member [] (suc i) x e = none_some x e
at_member (y ∷ ys) zero x e = inl (same_some y x e)
at_member (y ∷ ys) (suc i) x e = inr (at_member ys i x e)

pub member_at : {X : Type 0} (xs : List X) (x : X) → Member x xs → (i : ℕ) × (at i xs ≡ Some x)
member_at [] x m = absurd m
member_at (y ∷ ys) x (inl e) = (0, ap (λ v. Some v) e)
member_at (y ∷ ys) x (inr m) = let r = member_at ys x m in (suc r.0, r.1)

-- the first element with a number has it and is among the elements
pub first_member : {X : Type 0} (num : X → ℕ) (n : ℕ) (xs : List X) (x : X) → first_with num n xs ≡ Some x → Member x xs × (num x ≡ n)
first_member num n [] x e = none_some x e
first_member num n (y ∷ ys) x e = from (eqb (num y) n) refl e (λ h. first_member num n ys x h)
  where
    from : (b : Bool) → eqb (num y) n ≡ b → cond b (Some y) (first_with num n ys) ≡ Some x → (first_with num n ys ≡ Some x → Member x ys × (num x ≡ n)) → Member x (y ∷ ys) × (num x ≡ n)
    from true t h k = let s = same_some y x h in (inl s, sym (ap num s) ∙ eqb-true (num y) n t)
    from false t h k = let r = k h in (inr r.0, r.1)

pub among_first : {X : Type 0} (num : X → ℕ) (n : ℕ) (xs : List X) → among n (map num xs) ≡ true → (x : X) × (first_with num n xs ≡ Some x)
among_first num n [] e = absurd (false≢true e)
among_first num n (y ∷ ys) e = from (eqb (num y) n) e (λ h. among_first num n ys h)
  where
    from : (b : Bool) → cond b true (among n (map num ys)) ≡ true → (among n (map num ys) ≡ true → (x : _) × (first_with num n ys ≡ Some x)) → (x : _) × (cond b (Some y) (first_with num n ys) ≡ Some x)
    from true h k = (y, refl)
    from false h k = k h

-- where numbers rise, an element with a number is the first with it
module _ {X : Type 0} (num : X → ℕ) where
  rising_after : (last : ℕ) (xs : List X) (x : X) → Rising last (map num xs) → Member x xs → last < num x
  rising_after last [] x r m = absurd m
  rising_after last (y ∷ ys) x r (inl e) = subst (λ v. last < num v) e r.0
  rising_after last (y ∷ ys) x r (inr m) = let l = rising_after (num y) ys x r.1 m in let k = r.0 in omega arith

  pub member_first : (last : ℕ) (xs : List X) (x : X) (n : ℕ) → Rising last (map num xs) → Member x xs → num x ≡ n → first_with num n xs ≡ Some x
  member_first last [] x n r m e = absurd m
  member_first last (y ∷ ys) x n r (inl s) e = cond-true (eqb (num y) n) (Some y) (first_with num n ys) (eq-eqb (num y) n (ap num s ∙ e)) ∙ ap (λ v. Some v) s
  member_first last (y ∷ ys) x n r (inr m) e =
      let l = rising_after (num y) ys x r.1 m in
      cond-false (eqb (num y) n) (Some y) (first_with num n ys) (ne_eqb (num y) n (λ h. omega arith))
      ∙ member_first (num y) ys x n r.1 m e

  -- so there is one at most
  pub one_member : (last : ℕ) (xs : List X) (x y : X) → Rising last (map num xs) → Member x xs → Member y xs → num x ≡ num y → x ≡ y
  one_member last xs x y r m k e = same_some x y (sym (member_first last xs x (num y) r m e) ∙ member_first last xs y (num y) r k refl)
