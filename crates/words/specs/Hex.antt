-- Bytes written as hexadecimal digits: which texts are, which bytes they write, and how bytes are written.
use Rattle.std.specs.Prelude.{◌≡◌, ℕ, ◌+◌, ◌*◌, ◌/◌, ◌%◌, ◌<◌, Bool, true, cond, ◌⊎◌, List, [], ◌∷◌, length, Ok, Err, codes, Result, ◌==◌}
use Rattle.std.specs.Char.{is_ascii_hexdigit, digit_value, digit_char}
use Rattle.std.specs.List.{AllByRecursion, list_all}
use Rattle.std.specs.Str.{bytes_eq}
use Rattle.words.specs.declared.errors.LineError.{LineError}
use Rattle.words.specs.declared.errors.LineError.TheVariants.{NoHexDigit, OddHexDigits}

-- hexadecimal digits, upper or lower case
abbrev pub all_hex : List ℕ → Bool
all_hex = list_all is_ascii_hexdigit

-- a byte for each two digits
abbrev pub pairs_of : List ℕ → List ℕ
pairs_of [] = []
pairs_of (a ∷ []) = []
pairs_of (a ∷ b ∷ cs) = (16 * digit_value a + digit_value b) ∷ pairs_of cs

-- the value, where there are only digits and an even number of them
abbrev pub digits_only : {X : Type 0} → Bool → ℕ → X → Result X LineError
digits_only hex count x = cond hex (cond (count % 2 == 0) (Ok x) (Err OddHexDigits)) (Err NoHexDigit)

abbrev pub digit_bytes : List ℕ → Result (List ℕ) LineError
digit_bytes w = digits_only (all_hex w) (length w) (pairs_of w)

-- the bytes that a word writes: a dash alone writes none
unfoldable pub hex_bytes : List ℕ → Result (List ℕ) LineError
hex_bytes w = cond (bytes_eq w (codes "-")) (Ok []) (digit_bytes w)

-- where the bytes can be read, the value, and else why not
abbrev pub checked : {X : Type 0} → Result (List ℕ) LineError → X → Result X LineError
checked (Ok bytes) x = Ok x
checked (Err e) x = Err e

-- bytes written, two lower-case digits each
abbrev pub hex_digits : List ℕ → List ℕ
hex_digits [] = []
hex_digits (b ∷ bs) = digit_char (b / 16) ∷ digit_char (b % 16) ∷ hex_digits bs

abbrev pub hex_text : List ℕ → List ℕ
hex_text [] = codes "-"
hex_text (b ∷ bs) = hex_digits (b ∷ bs)

-- bytes that are written are read again, and what is read is a dash or two digits for each byte
pub record HexReads : Type 0 where
  pub back : (bytes : List ℕ) → AllByRecursion (λ b. b < 256) bytes → hex_bytes (hex_text bytes) ≡ Ok bytes
  pub only : (w bytes : List ℕ) → hex_bytes w ≡ Ok bytes → (w ≡ codes "-") ⊎ ((all_hex w ≡ true) × (length w ≡ 2 * length bytes))
