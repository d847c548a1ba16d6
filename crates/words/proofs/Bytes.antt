-- Hexadecimal digits: what a word writes by cases, and the law that bytes written are read again.
use Rattle.std.proofs.Common.{◌≡◌, ℕ, ◌+◌, ◌*◌, ◌/◌, ◌%◌, ◌<◌, Bool, true, false, cond, eqb, ◌⊎◌, List, [], ◌∷◌, ◌++◌, length, slice_index_or, Ok, Err, codes, is_ok, Result, sym, refl, ap, ◌∙◌, inl, inr, ⊎_elim, arith}
use Rattle.std.specs.Char.{is_ascii_hexdigit, digit_value, digit_char}
use Rattle.std.specs.List.{AllByRecursion}
use Rattle.std.specs.Str.{bytes_eq}
use Rattle.std.proofs.lemmas.Slice.Eq.{bytes_eq-Decides}
use Rattle.std.proofs.lemmas.Bool.{cond-true, cond-false, eq-eqb, ne_eqb, eqb-true, cases_Bool, and_from, and_parts, true≢false}
use Rattle.std.proofs.lemmas.Str.{digit_value-digit_char}
use Rattle.std.proofs.lemmas.Bool.Decides.{nat_tests, not_from_Decides}
use Rattle.words.specs.declared.errors.LineError.{LineError}
use Rattle.words.specs.declared.errors.LineError.TheVariants.{NoHexDigit, OddHexDigits}
use Rattle.words.specs.Hex.{all_hex, pairs_of, digits_only, digit_bytes, hex_bytes, checked, hex_digits, hex_text, HexReads}

pub digit_small : (c : ℕ) → is_ascii_hexdigit c ≡ true → digit_value c < 16
digit_small c h = grind (arith, nat_tests)

-- one pair of digits more
pub pairs_step : (pair behind : List ℕ) → length pair ≡ 2 → pairs_of (pair ++ behind) ≡ (16 * digit_value (slice_index_or pair 0 0) + digit_value (slice_index_or pair 1 0)) ∷ pairs_of behind
pairs_step [] behind h = absurd (omega (arith, h))
pairs_step (a ∷ []) behind h = absurd (omega (arith, h))
pairs_step (a ∷ b ∷ []) behind h = refl
pairs_step (a ∷ b ∷ c ∷ cs) behind h = absurd (omega (arith, h))

pub hex_behind : (pair behind : List ℕ) → all_hex (pair ++ behind) ≡ true → all_hex behind ≡ true
hex_behind [] behind h = h
hex_behind (a ∷ cs) behind h = hex_behind cs behind ((and_parts _ _ h).1)

-- a word by cases
pub hex_dash : (w : List ℕ) → w ≡ codes "-" → hex_bytes w ≡ Ok []
unfolding hex_bytes
hex_dash w e = cond-true (bytes_eq w (codes "-")) _ _ ((bytes_eq-Decides w (codes "-")).1 e)

pub dash_checked : (w : List ℕ) → bytes_eq w (codes "-") ≡ true → checked (hex_bytes w) (tt {0}) ≡ Ok tt
dash_checked w e = ap (λ r. checked r (tt {0})) (hex_dash w ((bytes_eq-Decides w (codes "-")).0 e))

module _ (w : List ℕ) (other : w ≡ codes "-" → ⊥) where
  digits_only_lem : hex_bytes w ≡ digit_bytes w
  unfolding hex_bytes
  digits_only_lem =
      ⊎_elim (λ t. absurd (other ((bytes_eq-Decides w (codes "-")).0 t))) (λ f. cond-false (bytes_eq w (codes "-")) _ _ f)
      (cases_Bool (bytes_eq w (codes "-")))

  pub hex_not : all_hex w ≡ false → hex_bytes w ≡ Err NoHexDigit
  hex_not e = digits_only_lem ∙ cond-false (all_hex w) _ _ e

  pub hex_odd : all_hex w ≡ true → (length w % 2 ≡ 0 → ⊥) → hex_bytes w ≡ Err OddHexDigits
  hex_odd e odd = digits_only_lem ∙ cond-true (all_hex w) _ _ e ∙ cond-false (eqb (length w % 2) 0) _ _ (ne_eqb _ 0 odd)

  pub hex_pairs : all_hex w ≡ true → length w % 2 ≡ 0 → hex_bytes w ≡ Ok (pairs_of w)
  hex_pairs e even = digits_only_lem ∙ cond-true (all_hex w) _ _ e ∙ cond-true (eqb (length w % 2) 0) _ _ (eq-eqb _ 0 even)

  -- the check of its digits is the check of the word
  pub hex_digits_lem : checked (hex_bytes w) (tt {0}) ≡ digits_only (all_hex w) (length w) tt
  hex_digits_lem = ap (λ r. checked r (tt {0})) digits_only_lem ∙ either (all_hex w) (eqb (length w % 2) 0)
    where
      either : (b c : Bool) → checked (cond b (cond c (Ok (pairs_of w)) (Err OddHexDigits)) (Err NoHexDigit)) (tt {0}) ≡ cond b (cond c (Ok tt) (Err OddHexDigits)) (Err NoHexDigit)
      either true true = refl
      either true false = refl
      either false c = refl

  -- what can be read is digits, an even number of them
  pub hex_parts : {X : Type 0} {x : X} → checked (hex_bytes w) x ≡ Ok x → (all_hex w ≡ true) × (length w % 2 ≡ 0)
  hex_parts {X} {x} h = ⊎_elim digits (λ f. absurd (refuse NoHexDigit (hex_not f))) (cases_Bool (all_hex w))
    where
      refuse : (e : LineError) → hex_bytes w ≡ Err e → ⊥
      refuse e f = let bad : Err e ≡ Ok x = sym (ap (λ r. checked r x) f) ∙ h in let z : ◌≡◌ {A = ℕ} 0 1 = cc in omega arith

      digits : all_hex w ≡ true → (all_hex w ≡ true) × (length w % 2 ≡ 0)
      digits t = (t, ⊎_elim (λ e. eqb-true _ 0 e) (λ f. absurd (refuse OddHexDigits (hex_odd t (λ z. true≢false (sym (eq-eqb _ 0 z) ∙ f))))) (cases_Bool (eqb (length w % 2) 0)))

-- what writes bytes passes the check, and what passes it writes bytes
pub readable_ok : {X : Type 0} (r : Result (List ℕ) LineError) (x : X) → is_ok r ≡ true → checked r x ≡ Ok x
readable_ok (Ok bs) x h = refl
readable_ok (Err e) x h = absurd (true≢false (sym h))

pub checked_ok : (r : Result (List ℕ) LineError) → checked r (tt {0}) ≡ Ok tt → is_ok r ≡ true
checked_ok (Ok bs) h = refl
checked_ok (Err e) h = let z : ◌≡◌ {A = ℕ} 0 1 = cc in absurd (omega arith)

-- a word that writes bytes, as the code tells a dash from digits
pub dash_read : (w : List ℕ) → bytes_eq w (codes "-") ≡ true → hex_bytes w ≡ Ok []
dash_read w e = hex_dash w ((bytes_eq-Decides w (codes "-")).0 e)

module _ (w : List ℕ) (digits : bytes_eq w (codes "-") ≡ false) (fine : is_ok (hex_bytes w) ≡ true) where
  other : w ≡ codes "-" → ⊥
  other = not_from_Decides _ (bytes_eq-Decides w (codes "-")) digits

  pub digits_checked : all_hex w ≡ true
  digits_checked = (hex_parts w other (readable_ok (hex_bytes w) (tt {0}) fine)).0

  pub digits_read : hex_bytes w ≡ Ok (pairs_of w)
  digits_read = let parts = hex_parts w other (readable_ok (hex_bytes w) (tt {0}) fine) in hex_pairs w other parts.0 parts.1

-- bytes that are written are read again
char_hex : (d : ℕ) → d < 16 → is_ascii_hexdigit (digit_char d) ≡ true
char_hex d h = grind (arith, nat_tests)

all_written : (bs : List ℕ) → AllByRecursion (λ b. b < 256) bs → all_hex (hex_digits bs) ≡ true
all_written [] h = refl
all_written (b ∷ bs) h =
    and_from _ _ (char_hex (b / 16) (omega (arith, h.0))) (and_from _ _ (char_hex (b % 16) (omega arith)) (all_written bs h.1))

length_written : (bs : List ℕ) → length (hex_digits bs) ≡ 2 * length bs
length_written [] = refl
length_written (b ∷ bs) = omega (arith, length_written bs)

pairs_written : (bs : List ℕ) → AllByRecursion (λ b. b < 256) bs → pairs_of (hex_digits bs) ≡ bs
pairs_written [] h = refl
pairs_written (b ∷ bs) h =
    let high = digit_value-digit_char (b / 16) (omega (arith, h.0)) in
    let low = digit_value-digit_char (b % 16) (omega arith) in
    let whole : 16 * digit_value (digit_char (b / 16)) + digit_value (digit_char (b % 16)) ≡ b = rw (high, low) (omega arith) in
    (λ i. whole i ∷ pairs_written bs h.1 i)

length_pairs : (w : List ℕ) → length w % 2 ≡ 0 → length w ≡ 2 * length (pairs_of w)
length_pairs [] h = refl
length_pairs (a ∷ []) h = absurd (omega arith)
length_pairs (a ∷ b ∷ cs) h = omega (arith, length_pairs cs (omega arith))

back : (bytes : List ℕ) → AllByRecursion (λ b. b < 256) bytes → hex_bytes (hex_text bytes) ≡ Ok bytes
back [] h = hex_dash (codes "-") refl
back (b ∷ bs) h =
    let size = length_written (b ∷ bs) in
    hex_pairs (hex_digits (b ∷ bs)) (λ e. absurd (two (ap length e))) (all_written (b ∷ bs) h) (omega arith) ∙ ap Ok (pairs_written (b ∷ bs) h)
  where
    two : length (hex_digits (b ∷ bs)) ≡ 1 → ⊥
    two e = omega arith

only : (w bytes : List ℕ) → hex_bytes w ≡ Ok bytes → (w ≡ codes "-") ⊎ ((all_hex w ≡ true) × (length w ≡ 2 * length bytes))
only w bytes h =
    ⊎_elim (λ t. inl ((bytes_eq-Decides w (codes "-")).0 t)) (λ f. inr (digits (not_from_Decides _ (bytes_eq-Decides w (codes "-")) f)))
    (cases_Bool (bytes_eq w (codes "-")))
  where
    digits : (w ≡ codes "-" → ⊥) → (all_hex w ≡ true) × (length w ≡ 2 * length bytes)
    digits other =
        let parts = hex_parts w other (ap (λ r. checked r bytes) h) in
        let same : pairs_of w ≡ bytes = let e : ◌≡◌ {A = Result (List ℕ) LineError} (Ok (pairs_of w)) (Ok bytes) = sym (hex_pairs w other parts.0 parts.1) ∙ h in cc in
        (parts.0, length_pairs w parts.1 ∙ ap (λ l. 2 * length l) same)

pub hex_reads : HexReads
hex_reads = record { back = back; only = only }

-- one check, with another value where it passes
pub rechecked_ok : {X Y : Type 0} (r : Result (List ℕ) LineError) (x : X) (y : Y) → Ok x ≡ checked r x → checked r y ≡ Ok y
rechecked_ok (Ok bs) x y h = refl
rechecked_ok (Err e) x y h = let z : ◌≡◌ {A = ℕ} 0 1 = cc in absurd (omega arith)

-- and the same error where it does not
pub rechecked_stops : {X Y : Type 0} (r : Result (List ℕ) LineError) (x : X) (y : Y) (e : LineError) → Err e ≡ checked r x → checked r y ≡ Err e
rechecked_stops (Ok bs) x y e h = let z : ◌≡◌ {A = ℕ} 0 1 = cc in absurd (omega arith)
rechecked_stops (Err f) x y e h = cc

-- why the check fails is why nothing is read
pub rechecked_err : {X : Type 0} (r : Result (List ℕ) LineError) (x : X) (s : Result X LineError) (e : LineError) → checked r (tt {0}) ≡ Err e → s ≡ Err e → s ≡ checked r x
rechecked_err (Ok bs) x s e h k = let z : ◌≡◌ {A = ℕ} 0 1 = cc in absurd (omega arith)
rechecked_err (Err f) x s e h k = let same : e ≡ f = cc in k ∙ ap Err same
