-- Short lists: how long they are at most, and a loop that puts the elements of one list behind another.
use Rattle.std.proofs.Common.{◌≡◌, ℕ, zero, suc, ◌+◌, ◌<◌, ◌≤◌, min, Bool, cond, ltb, List, [], ◌∷◌, ◌++◌, map, length, get_or, take, Option, unwrap_or, sym, refl, ap, ◌∙◌, arith, length-append, length-take}
use Rattle.std.proofs.lemmas.List.{length-map, length-take-le, take_more, append_assoc}
use Rattle.std.specs.Option.{option_map}
use Rattle.records.specs.declared.bounded.BoundedList.{BoundedList}
use Rattle.records.specs.Bounded.{listed, plain_list}
use Rattle.records.specs.Lists.{at}
use Rattle.records.proofs.Fronts.{took_held, cut}

pub listed_most : {T : Type 0} {N : ℕ} (l : BoundedList T N) → length (listed l) ≤ N
listed_most l =
    let t = length-take l.count l.items in
    let s = l.sized in
    omega (arith, t, s)

pub plain_most : {T X : Type 0} {N : ℕ} (plain : T → X) (l : BoundedList T N) → length (plain_list plain l) ≤ N
plain_most plain l =
    let m = listed_most l in
    let e = length-map (listed l) plain in
    omega (arith, m, e)

module _ {X : Type 0} (start now rows : List X) (i : ℕ) (e : now ≡ start ++ take i rows) where
  pub appended_length : i ≤ length rows → length now ≡ length start + i
  appended_length l = ap length e ∙ length-append start (take i rows) ∙ ap (λ (n : ℕ). length start + n) (length-take-le i rows l)

  -- one element more is put there, where the memory has room for it
  pub appended_more : (d x : X) (next : List X) (took : Bool) (room : ℕ) → i < length rows → x ≡ get_or rows i d → length start + length rows ≤ room →
      took ≡ ltb (length now) room → next ≡ cond took (now ++ x ∷ []) now → next ≡ start ++ take (i + 1) rows
  appended_more d x next took room l h r t n =
      let m = appended_length (omega arith) in
      took_held took (length now) room next (now ++ x ∷ []) now t (omega arith) n
      ∙ ap (λ (xs : List X). xs ++ x ∷ []) e
      ∙ append_assoc start (take i rows) (x ∷ [])
      ∙ ap (λ (y : X). start ++ (take i rows ++ y ∷ [])) h
      ∙ ap (λ (xs : List X). start ++ xs) (sym (take_more rows i d l))

-- a cut at the smaller of a number and the length
pub take_min : {X : Type 0} (xs : List X) (n k : ℕ) → k ≡ min n (length xs) → take k xs ≡ take n xs
take_min xs n k e = ap (λ (j : ℕ). take j xs) e ∙ cut xs n

-- what stands at a place of the plain values
mapped_at : {X Y : Type 0} (plain : X → Y) (i : ℕ) (xs : List X) → option_map plain (at i xs) ≡ at i (map plain xs)
mapped_at plain zero [] = refl
mapped_at plain (suc i) [] = refl
mapped_at plain zero (x ∷ xs) = refl
mapped_at plain (suc i) (x ∷ xs) = mapped_at plain i xs

pub at_plain : {X Y : Type 0} (plain : X → Y) (i : ℕ) (xs : List X) (o : Option X) → o ≡ at i xs → option_map plain o ≡ at i (map plain xs)
at_plain plain i xs o e = ap (option_map plain) e ∙ mapped_at plain i xs

pub get_d_at : {X : Type 0} (xs : List X) (i : ℕ) (d : X) → unwrap_or (at i xs) d ≡ get_or xs i d
get_d_at [] zero d = refl
get_d_at [] (suc i) d = refl
get_d_at (x ∷ xs) zero d = refl
get_d_at (x ∷ xs) (suc i) d = get_d_at xs i d
