-- Written numbers and bytes are words: they hold no separator.
use Rattle.std.proofs.Common.{◌≡◌, ℕ, suc, ◌^◌, ◌<◌, Bool, true, false, not, ◌&&◌, List, [], ◌∷◌, length, ℤ, pos, negsuc, is_ok, Ok, Err, codes, decimal, Result, sym, refl, subst, ⊎_elim, arith}
use lib.Signed.{mag}
use Rattle.std.specs.Char.{is_ascii_hexdigit, is_ascii_digit}
use Rattle.std.specs.List.{AllByRecursion}
use Rattle.std.specs.Str.{bytes_eq, all_ascii_digits}
use Rattle.std.specs.Fmt.{signed_decimal}
use Rattle.std.proofs.lemmas.Slice.Eq.{bytes_eq-Decides}
use Rattle.std.proofs.lemmas.Bool.{cases_Bool, and_parts, false≢true, not-true}
use Rattle.std.proofs.lemmas.Bool.Decides.{nat_tests, not_from_Decides}
use Rattle.std.proofs.lemmas.Fmt.{digits_decimal, decimal_nonempty}
use Rattle.words.specs.declared.errors.LineError.{LineError}
use Rattle.words.specs.Hex.{all_hex, hex_bytes, checked}
use Rattle.words.specs.Words.{separator, Word}
use Rattle.words.proofs.Bytes.{hex_parts}
use Rattle.words.proofs.Decimal.{own}

-- no separator, as a test that computes
abbrev pub dark : List ℕ → Bool
dark [] = true
dark (b ∷ bs) = not (separator b) && dark bs

abbrev pub Dark : List ℕ → Type 0
Dark w = AllByRecursion (λ b. separator b ≡ false) w

pub dark_all : (w : List ℕ) → dark w ≡ true → Dark w
dark_all [] h = tt
dark_all (b ∷ bs) h = let p = and_parts _ _ h in (not-true _ p.0, dark_all bs p.1)

-- digits, numbers, hexadecimal digits and stacks are words
digit_dark : (c : ℕ) → is_ascii_digit c ≡ true → separator c ≡ false
digit_dark c h = grind (arith, nat_tests)

digits_dark : (ds : List ℕ) → all_ascii_digits ds ≡ true → Dark ds
digits_dark [] h = tt
digits_dark (c ∷ cs) h = let p = and_parts _ _ h in (digit_dark c p.0, digits_dark cs p.1)

pub word_decimal : (n : ℕ) → n < 2 ^ 64 → Word (decimal n)
word_decimal n h = (decimal_nonempty n h, digits_dark (decimal n) (digits_decimal own n h))

pub word_signed : (z : ℤ) → mag z < 2 ^ 63 → Word (signed_decimal z)
word_signed (pos n) h = word_decimal n (omega arith)
word_signed (negsuc n) h = let d = word_decimal (suc n) (omega arith) in (omega arith, (refl, d.1))

hex_dark : (c : ℕ) → is_ascii_hexdigit c ≡ true → separator c ≡ false
hex_dark c h = grind (arith, nat_tests)

all_hex_dark : (w : List ℕ) → all_hex w ≡ true → Dark w
all_hex_dark [] h = tt
all_hex_dark (c ∷ cs) h = let p = and_parts _ _ h in (hex_dark c p.0, all_hex_dark cs p.1)

pub readable : (r : Result (List ℕ) LineError) {X : Type 0} (x : X) → is_ok r ≡ true → checked r x ≡ Ok x
readable (Ok bs) x h = refl
readable (Err e) x h = absurd (false≢true h)

pub word_hex : (w : List ℕ) → 0 < length w → is_ok (hex_bytes w) ≡ true → Word w
word_hex w some h = (
  some,
  ⊎_elim (λ t. subst Dark (sym ((bytes_eq-Decides w (codes "-")).0 t)) (dark_all (codes "-") refl))
      (λ f. all_hex_dark w (hex_parts w (not_from_Decides _ (bytes_eq-Decides w (codes "-")) f) (readable (hex_bytes w) w h)).0)
      (cases_Bool (bytes_eq w (codes "-"))),
)
