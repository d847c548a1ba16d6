-- Arguments read from words: numbers, and words that write bytes.
use Rattle.std.specs.Prelude.{◌≡◌, ℕ, zero, suc, ◌^◌, ◌<◌, List, [], ◌∷◌, ◌++◌, map, length, take, ℤ, pos, IfOk, IfErr, Ok, Err, Result, slice_index_or}
use Rattle.std.specs.Int.Signed.{mag}
use Rattle.std.specs.Fmt.{signed_decimal}
use Rattle.std.specs.List.{AllByRecursion}
use Rattle.rows.specs.declared.numbers.Numbers.{Numbers}
use Rattle.words.specs.declared.errors.LineError.{LineError}
use Rattle.words.specs.declared.errors.LineError.TheVariants.{TooFewWords, TooManyWords, MissingHex}
use Rattle.words.specs.Hex.{hex_bytes, checked}
use Rattle.words.specs.Numerals.{number_of}

-- one reading after another: the first error counts
abbrev pub and_then : {X Y : Type 0} → Result X LineError → (X → Result Y LineError) → Result Y LineError
and_then (Ok x) f = f x
and_then (Err e) f = Err e

-- the words behind the first
abbrev pub rest_of : List (List ℕ) → List (List ℕ)
rest_of [] = []
rest_of (w ∷ ws) = ws

-- the value, where no word is left
abbrev pub ended : {X : Type 0} → X → List (List ℕ) → Result X LineError
ended x [] = Ok x
ended x (w ∷ ws) = Err TooManyWords

-- the first word as a number
abbrev pub first_number : List (List ℕ) → Result ℤ LineError
first_number [] = Err TooFewWords
first_number (w ∷ ws) = number_of w

-- the first word as one that writes bytes
abbrev pub first_hex : List (List ℕ) → Result (List ℕ) LineError
first_hex [] = Err MissingHex
first_hex (w ∷ ws) = checked (hex_bytes w) w

-- so many numbers behind those that were read, and no word more
abbrev pub numbers_after : List ℤ → ℕ → List (List ℕ) → Result (List ℤ) LineError
numbers_after done zero ws = ended done ws
numbers_after done (suc n) ws = and_then (first_number ws) (λ z. numbers_after (done ++ z ∷ []) n (rest_of ws))

-- nine numbers: eight coefficients and a bound
abbrev pub shape : List ℤ → Numbers
shape zs = record { coefficients = take 8 zs; bound = slice_index_or zs 8 (pos 0) }

unfoldable pub nine_numbers : List (List ℕ) → Result Numbers LineError
nine_numbers ws = and_then (numbers_after [] 9 ws) (λ zs. Ok (shape zs))

-- the first eight of nine numbers were read and the ninth is left, or one of them could not be read
pub record EightRead (before after : List (List ℕ)) (r : Result (List ℤ) LineError) : Type 0 where
  pub long : IfOk r (λ zs. length zs ≡ 8)
  pub ok : IfOk r (λ zs. numbers_after zs 1 after ≡ numbers_after [] 9 before)
  pub err : IfErr r (λ e. numbers_after [] 9 before ≡ Err e)

-- the nine numbers in their order
abbrev pub items_of : Numbers → List ℤ
items_of r = r.coefficients ++ r.bound ∷ []

-- eight coefficients and a bound, each from -2^63 to 2^63 - 1
abbrev pub Nine : Numbers → Type 0
Nine r = (length r.coefficients ≡ 8) × AllByRecursion (λ z. mag z < 2 ^ 63) (items_of r)

-- nine numbers that are written are read again, and what is read is nine numbers of 64 bits
pub record NumbersRead : Type 0 where
  pub back : (r : Numbers) → Nine r → nine_numbers (map signed_decimal (items_of r)) ≡ Ok r
  pub only : (ws : List (List ℕ)) (r : Numbers) → nine_numbers ws ≡ Ok r → Nine r
