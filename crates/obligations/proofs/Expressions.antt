-- The values of expressions at a point, zero where there is no expression.
use Rattle.std.proofs.Common.{◌≡◌, ℕ, zero, suc, ◌-◌, ◌<◌, List, [], ◌∷◌, ◌++◌, map, length, get_or, replicate, ℤ, pos, sym, refl, ◌∙◌, inl, inr, arith, length-append}
use lib.ListN.{length-replicate}
use Rattle.std.proofs.lemmas.List.{length-take, get_or-take, get_or_append_left, get_or-append_right, get_or_past, get_or-replicate}
use Rattle.std.proofs.lemmas.Bool.{cases_lt}
use Rattle.semantics.specs.Vectors.{padded}

pub length_padded : (n : ℕ) (xs : List ℤ) → length (padded n xs) ≡ n
length_padded n xs =
    let t = length-take n (xs ++ replicate n (pos 0)) in
    let a = length-append xs (replicate n (pos 0)) in
    let r = length-replicate n (pos 0) in
    omega (arith, t, a, r)

pub get_or-padded : (n : ℕ) (xs : List ℤ) (k : ℕ) → k < n → get_or (padded n xs) k (pos 0) ≡ get_or xs k (pos 0)
get_or-padded n xs k l =
    get_or-take n (xs ++ replicate n (pos 0)) k (pos 0) l
    ∙ elim (cases_lt k (length xs)) [
      | inl h ↦ get_or_append_left xs (replicate n (pos 0)) (pos 0) k h
      | inr h ↦ get_or-append_right xs (replicate n (pos 0)) (length xs) k (pos 0) refl h ∙ get_or-replicate n (k - length xs) (pos 0) (pos 0) (omega arith) ∙ sym (get_or_past xs k (pos 0) h)
    ]

-- a function of an element read, where the function of the filler is the filler of the functions
pub get_or-mapped : {X Y : Type 0} (f : X → Y) (xs : List X) (k : ℕ) (d : X) (e : Y) → f d ≡ e → f (get_or xs k d) ≡ get_or (map f xs) k e
get_or-mapped f [] k d e h = h
get_or-mapped f (x ∷ xs) zero d e h = refl
get_or-mapped f (x ∷ xs) (suc k) d e h = get_or-mapped f xs k d e h
