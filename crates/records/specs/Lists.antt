-- What stands at a place of a list, and the place of the first element with a number.
use Rattle.std.specs.Prelude.{ℕ, Bool, true, false, cond, List, [], ◌∷◌, drop, Some, None, Option, ◌==◌}
use Rattle.std.specs.List.{position_from}

abbrev pub first : {A : Type 0} → List A → Option A
first [] = None
first (x ∷ xs) = Some x

-- what stands at a place, if anything does
abbrev pub at : {A : Type 0} → ℕ → List A → Option A
at i xs = first (drop i xs)

-- the place, counted from i, of the first element with that number
abbrev pub place_of : {A : Type 0} → (A → ℕ) → ℕ → ℕ → List A → Option ℕ
place_of num n i xs = position_from (λ x. num x == n) i xs

-- the first element with that number
abbrev pub first_with : {A : Type 0} → (A → ℕ) → ℕ → List A → Option A
first_with num n [] = None
first_with num n (x ∷ xs) = cond (num x == n) (Some x) (first_with num n xs)

-- whether a number is among some
abbrev pub among : ℕ → List ℕ → Bool
among n [] = false
among n (m ∷ ms) = cond (m == n) true (among n ms)
