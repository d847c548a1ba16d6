-- Equality of whole numbers, and of lists of them, as tests.
use Rattle.std.specs.Prelude.{Bool, true, false, ◌&&◌, List, [], ◌∷◌, ℤ, pos, negsuc, ◌==◌}

abbrev pub int_eq_test : ℤ → ℤ → Bool
int_eq_test (pos a) (pos b) = a == b
int_eq_test (pos a) (negsuc b) = false
int_eq_test (negsuc a) (pos b) = false
int_eq_test (negsuc a) (negsuc b) = a == b

-- the same whole numbers in the same order
abbrev pub alike : List ℤ → List ℤ → Bool
alike [] [] = true
alike [] (y ∷ ys) = false
alike (x ∷ xs) [] = false
alike (x ∷ xs) (y ∷ ys) = int_eq_test x y && alike xs ys
