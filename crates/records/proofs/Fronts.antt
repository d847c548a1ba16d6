-- Lists that are the front of their memory: a read past the end, a write, a push, and a search by number.
use Rattle.std.proofs.Common.{◌≡◌, ℕ, suc, ◌+◌, ◌-◌, ◌<◌, ◌≤◌, min, Bool, true, false, cond, eqb, ltb, List, [], ◌∷◌, ◌++◌, map, length, take, drop, set, Some, None, Option, sym, refl, ap, ◌∙◌, inl, inr, le_of_lt, arith, length-set, length-take, MatchOption}
use lib.Seq.{take-set-lt}
use Rattle.std.proofs.lemmas.List.{at_drop_all, take_min, take_all, length-take-le, take_more_set, drop-drop, drop-set-lt, set_past}
use Rattle.std.proofs.lemmas.Bool.{cases_lt, lt-ltb, le-ltb, cond-true, cond-false, cases_Bool}
use Rattle.std.specs.List.{find}
use Rattle.std.specs.Option.{option_map}
use Rattle.records.specs.Lists.{place_of, at, first, first_with}

pub at_past : {X : Type 0} → (xs : List X) (i : ℕ) → length xs ≤ i → ◌≡◌ {A = Option X} None (at i xs)
at_past xs i h = sym (at_drop_all first xs i h)

-- what a cut at the smaller of two lengths keeps
pub cut : {X : Type 0} → (xs : List X) (n : ℕ) → take (min n (length xs)) xs ≡ take n xs
cut xs n = take_min n xs

-- a write among the first n
pub taken_set : {X : Type 0} (xs : List X) (n i : ℕ) (x : X) → i < n → take n (set xs i x) ≡ set (take n xs) i x
taken_set xs n i x h = take-set-lt n xs i x h

-- an element put behind the first n, where the memory has room for it
pub record Pushed {X : Type 0} (xs : List X) (n k : ℕ) (x : X) : Type 0 where
  pub took : true ≡ ltb (length (take n xs)) (length xs)
  pub front : take k (set xs n x) ≡ take n xs ++ x ∷ []
  pub rest : drop k (set xs n x) ≡ drop 1 (drop n xs)

pub pushed : {X : Type 0} (xs : List X) (n k : ℕ) (x : X) → n < length xs → k ≡ n + 1 → Pushed xs n k x
pushed xs n k x h e =
    record {
      took = sym (ap (λ j. ltb j (length xs)) (length-take-le n xs (le_of_lt h)) ∙ lt-ltb n (length xs) h);
      front = ap (λ j. take j (set xs n x)) e ∙ take_more_set xs n x h;
      rest = ap (λ j. drop j (set xs n x)) e ∙ drop-set-lt (n + 1) xs n x (omega arith) ∙ sym (drop-drop 1 n xs);
    }

-- where it has none
pub full : {X : Type 0} (xs : List X) (n : ℕ) → length xs ≤ n → false ≡ ltb (length (take n xs)) (length xs)
full xs n h = sym (ap (λ ys. ltb (length ys) (length xs)) (take_all n xs h) ∙ le-ltb (length xs) (length xs) (omega arith))

-- an element of the first n replaced, where one of them stands at the place
pub record Replaced {X : Type 0} (xs ys : List X) (n i : ℕ) (x : X) (b : Bool) : Type 0 where
  pub took : b ≡ ltb i (length (take n xs))
  pub front : take n ys ≡ set (take n xs) i x
  pub rest : drop n ys ≡ drop n xs
  pub room : length ys ≡ length xs

pub replaced : {X : Type 0} (xs ys : List X) (n i : ℕ) (x : X) (b : Bool) → b ≡ ltb i (min n (length xs)) → ys ≡ cond b (set xs i x) xs → Replaced xs ys n i x b
replaced xs ys n i x b t e =
    let m = length-take n xs in
    elim (cases_lt i (min n (length xs))) [
      | inl h ↦
          let s : ys ≡ set xs i x = e ∙ cond-true b _ _ (t ∙ lt-ltb i _ h) in
          record {
            took = t ∙ ap (ltb i) (sym m);
            front = ap (take n) s ∙ take-set-lt n xs i x (omega arith);
            rest = ap (drop n) s ∙ drop-set-lt n xs i x (omega arith);
            room = ap length s ∙ length-set xs i x;
          }
      | inr h ↦
          let s : ys ≡ xs = e ∙ cond-false b _ _ (t ∙ le-ltb i _ h) in
          record {
            took = t ∙ ap (ltb i) (sym m);
            front = ap (take n) s ∙ sym (set_past (take n xs) i x (omega arith));
            rest = ap (drop n) s;
            room = ap length s;
          }
    ]

-- what a push tells where there is room
pub took_held : {X : Type 0} (b : Bool) (n m : ℕ) (xs ys zs : List X) → b ≡ ltb n m → n < m → xs ≡ cond b ys zs → xs ≡ ys
took_held b n m xs ys zs e l h = h ∙ cond-true b ys zs (e ∙ lt-ltb n m l)

-- a search tells where the first element with a number stands, or that none does
pub found_place : {X : Type 0} (num : X → ℕ) (n i : ℕ) (xs : List X) → MatchOption (place_of num n i xs) (first_with num n xs ≡ None) (λ j. (i ≤ j) × (first_with num n xs ≡ at (j - i) xs))
found_place num n i [] = refl
found_place num n i (x ∷ xs) =
    elim (cases_Bool (eqb (num x) n)) [
      | inl t ↦
          let z : i - i ≡ 0 = omega arith in
          rw (t, z) (omega arith, refl)
      | inr f ↦ rw f (later (place_of num n (i + 1) xs) (found_place num n (i + 1) xs))
    ]
  where
    later : (o : Option ℕ) → MatchOption o (first_with num n xs ≡ None) (λ j. (i + 1 ≤ j) × (first_with num n xs ≡ at (j - (i + 1)) xs)) → MatchOption o (first_with num n xs ≡ None) (λ j. (i ≤ j) × (first_with num n xs ≡ at (j - i) (x ∷ xs)))
    later None h = h
    later (Some j) h =
        let e : j - i ≡ suc (j - (i + 1)) = omega (arith, h.0) in
        (omega (arith, h.0), h.1 ∙ sym (ap (λ k. at k (x ∷ xs)) e))

-- the first with a number among the plain values
pub first_plain : {X Y : Type 0} (plain : X → Y) (num : X → ℕ) (mun : Y → ℕ) (n : ℕ) (xs : List X) → ((x : X) → mun (plain x) ≡ num x) → option_map plain (first_with num n xs) ≡ first_with mun n (map plain xs)
first_plain plain num mun n [] h = refl
first_plain plain num mun n (x ∷ xs) h =
    elim (cases_Bool (eqb (num x) n)) [
      | inl t ↦ let s : eqb (mun (plain x)) n ≡ true = ap (λ k. eqb k n) (h x) ∙ t in rw (t, s)
      | inr f ↦ let s : eqb (mun (plain x)) n ≡ false = ap (λ k. eqb k n) (h x) ∙ f in rw (f, s) (first_plain plain num mun n xs h)
    ]

-- the first with a number, as the library's search finds it
pub found_first : {X : Type 0} (num : X → ℕ) (n : ℕ) (xs : List X) → first_with num n xs ≡ find (λ x. eqb (num x) n) xs
found_first num n [] = refl
found_first num n (x ∷ xs) = ap (cond (eqb (num x) n) (Some x)) (found_first num n xs)
