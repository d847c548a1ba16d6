-- Numbers written in decimal, and what `parse` says of a word.
use Rattle.std.proofs.Common.{◌≡◌, ℕ, zero, suc, ◌^◌, ◌<◌, ◌≤◌, true, false, cond, ◌&&◌, eqb, List, [], ◌∷◌, length, get_or, ℤ, pos, negsuc, neg_ℤ, is_some, unwrap_or, MatchOption, MatchResult, IsErrAnd, Some, None, Ok, Err, decimal, Option, Result, sym, refl, ap, ◌∙◌, ⊎_elim, arith, w64, rules}
use lib.Signed.{mag}
use Rattle.std.specs.Borrow.{Bor}
use Rattle.std.specs.List.{list_all}
use Rattle.std.specs.Result.{OkIff}
use Rattle.std.specs.Str.Parse.{ParsesSigned}
use Rattle.std.specs.Str.Pattern.{FindsCharPrefix, StripsPrefix}
use Rattle.std.proofs.lemmas.Str.Pattern.{strip_prefix_char}
use Rattle.std.specs.Char.{is_ascii_digit}
use Rattle.std.specs.Str.{all_ascii_digits}
use Rattle.std.proofs.lemmas.Fmt.{digits_decimal, digits_value-decimal, decimal_nonempty}
use Rattle.std.proofs.lemmas.Str.Parse.{IsNumeralModel, numerals_by_fold, tells_all_ascii_digits, parse_signed_minus, parse_signed_plain}
use Rattle.std.proofs.lemmas.Bool.{cond-true, cond-false, eq-eqb, ne_eqb, cases_eq, lt-ltb, le-ltb, cases_lt, false≢true, true≢false}
use Rattle.std.proofs.lemmas.Bool.Decides.{nat_tests}
use Rattle.words.specs.declared.errors.LineError.{LineError}
use Rattle.words.specs.declared.errors.LineError.TheVariants.{NotANumber, NumberTooLarge}
use Rattle.words.specs.Numerals.{is_numeral, value_after, natural_of, plus, minus, whole_of, fits64, in_range, number_of, DecimalsRead}

pub own : IsNumeralModel (λ ds. all_ascii_digits ds ≡ true) (value_after 0)
own = numerals_by_fold _ tells_all_ascii_digits value_after (search rules)

-- a text of digits that is not empty is a numeral
pub numeral_some : (ds : List ℕ) → 0 < length ds → is_numeral ds ≡ all_ascii_digits ds
numeral_some [] h = absurd (omega arith)
numeral_some (c ∷ cs) h = refl

natural_some : (ds : List ℕ) → is_numeral ds ≡ true → natural_of ds ≡ Some (value_after 0 ds)
natural_some ds h = cond-true (is_numeral ds) _ _ h

numeral_parts : (ds : List ℕ) → is_numeral ds ≡ true → (all_ascii_digits ds ≡ true) × (0 < length ds)
numeral_parts [] h = absurd (false≢true h)
numeral_parts (c ∷ cs) h = (h, omega arith)

in_range_lem : (z : ℤ) → mag z < 2 ^ 63 → in_range (Some z) ≡ Ok z
in_range_lem z h = cond-true (fits64 z) _ _ (lt-ltb (mag z) (2 ^ 63) h)

out_of_range : (z : ℤ) → 2 ^ 63 ≤ mag z → in_range (Some z) ≡ Err NumberTooLarge
out_of_range z h = cond-false (fits64 z) _ _ (le-ltb (mag z) (2 ^ 63) h)

digit_first : (c : ℕ) (cs : List ℕ) → all_ascii_digits (c ∷ cs) ≡ true → c ≡ 45 → ⊥
digit_first c cs h e = grind (arith, nat_tests)

natural_decimal : (n : ℕ) → n < 2 ^ 64 → natural_of (decimal n) ≡ Some n
natural_decimal n h =
    natural_some (decimal n) (numeral_some (decimal n) (decimal_nonempty n h) ∙ digits_decimal own n h)
    ∙ ap Some (digits_value-decimal own n h)

whole_plain : (ds : List ℕ) (n : ℕ) → natural_of ds ≡ Some n → all_ascii_digits ds ≡ true → whole_of ds ≡ Some (pos n)
whole_plain [] n e d = absurd (none_some e)
  where
    none_some : ◌≡◌ {A = _} (natural_of []) (Some n) → ⊥
    none_some e = grind arith
whole_plain (c ∷ cs) n e d = cond-false (eqb c 45) _ _ (ne_eqb c 45 (digit_first c cs d)) ∙ ap plus e

pub decimals_read : DecimalsRead
unfolding number_of
decimals_read (pos n) h = ap in_range (whole_plain (decimal n) n (natural_decimal n (omega arith)) (digits_decimal own n (omega arith))) ∙ in_range_lem (pos n) h
decimals_read (negsuc n) h = ap (λ o. in_range (minus o)) (natural_decimal (suc n) (omega arith)) ∙ in_range_lem (negsuc n) h

-- a text that is not empty, each byte of it a digit
pub numeral_all : (ds : List ℕ) → false ≡ eqb (length ds) 0 → list_all is_ascii_digit ds ≡ is_numeral ds
numeral_all [] e = absurd (false≢true e)
numeral_all (c ∷ cs) e = ap (λ t. is_ascii_digit c && t) (digits cs)
  where
    digits : (bs : List ℕ) → list_all is_ascii_digit bs ≡ all_ascii_digits bs
    digits [] = refl
    digits (b ∷ bs) = ap (λ t. is_ascii_digit b && t) (digits bs)

natural_is : (ds : List ℕ) → is_some (natural_of ds) ≡ is_numeral ds
natural_is ds = elim (is_numeral ds) as (λ t. is_some (cond t (Some (value_after 0 ds)) None) ≡ t) [ true ↦ refl | false ↦ refl ]

-- with a minus in front
pub number_minus : (bs ds : List ℕ) → bs ≡ 45 ∷ ds → is_numeral ds ≡ is_some (whole_of bs)
number_minus bs ds e = sym (ap (λ l. is_some (whole_of l)) e ∙ same_minus (natural_of ds) ∙ natural_is ds)
  where
    same_minus : (o : Option ℕ) → is_some (minus o) ≡ is_some o
    same_minus None = refl
    same_minus (Some n) = refl

-- with none
pub number_plain : (bs : List ℕ) → ((rest : List ℕ) → bs ≡ 45 ∷ rest → ⊥) → is_numeral bs ≡ is_some (whole_of bs)
number_plain [] h = refl
number_plain (c ∷ cs) h =
    sym (ap is_some (cond-false (eqb c 45) _ _ (ne_eqb c 45 (λ e. h cs (ap (λ x. x ∷ cs) e)))) ∙ same_plus (natural_of (c ∷ cs)) ∙ natural_is (c ∷ cs))
  where
    same_plus : (o : Option ℕ) → is_some (plus o) ≡ is_some o
    same_plus None = refl
    same_plus (Some n) = refl

-- with the minus cut off, if there is one
pub number_stripped : (word : Bor (List ℕ)) (r : Option (Bor (List ℕ))) → MatchOption r (FindsCharPrefix 45 word.now None) (λ x. StripsPrefix (FindsCharPrefix 45) word.now x.now) → is_numeral (unwrap_or r word).now ≡ is_some (whole_of word.now)
number_stripped word r h = cases r (strip_prefix_char 45 word.now r h (omega arith))
  where
    cases : (o : Option (Bor (List ℕ))) → MatchOption o ((rest : List ℕ) → word.now ≡ 45 ∷ rest → ⊥) (λ x. word.now ≡ 45 ∷ x.now) → is_numeral (unwrap_or o word).now ≡ is_some (whole_of word.now)
    cases None h = number_plain word.now h
    cases (Some x) h = number_minus word.now x.now h

-- a word that writes no number
pub number_none : (bs : List ℕ) → is_some (whole_of bs) ≡ false → number_of bs ≡ Err NotANumber
unfolding number_of
number_none bs h = elim (whole_of bs) as (λ o. is_some o ≡ false → in_range o ≡ Err NotANumber) [ None ↦ λ _. refl | Some z ↦ λ e. absurd (true≢false e) ] h

-- where a number was read, it is the word's, and else the word's is too large
abbrev pub Agrees : {E : Type 0} → List ℕ → Result ℤ E → Type 0
Agrees bs (Ok z) = number_of bs ≡ Ok z
Agrees bs (Err e) = number_of bs ≡ Err NumberTooLarge

converted_agrees : {E : Type 0} (bs : List ℕ) (z : ℤ) (P : Type 0) (r : Result ℤ E) → whole_of bs ≡ Some z → (mag z < 2 ^ 63 → P) → (P → mag z < 2 ^ 63) → OkIff r P z → Agrees bs r
unfolding number_of
converted_agrees bs z P (Ok x) e to from h = ap in_range e ∙ in_range_lem z (from h.0) ∙ ap Ok (sym h.1)
converted_agrees bs z P (Err x) e to from h =
    ap in_range e ∙ ⊎_elim (λ l. absurd (h (to l))) (λ l. out_of_range z l) (cases_lt (mag z) (2 ^ 63))

mag_negative : (n : ℕ) → (mag (neg_ℤ (pos n)) < 2 ^ 63 → n ≤ 2 ^ 63) × (n ≤ 2 ^ 63 → mag (neg_ℤ (pos n)) < 2 ^ 63)
mag_negative zero = (λ h. omega arith, λ h. omega arith)
mag_negative (suc n) = (λ h. omega arith, λ h. omega arith)

-- what `parse` answers at a word that writes a number
pub parse_agrees : {E : Type 0} (bs : List ℕ) (r : Result ℤ E) → ParsesSigned w64 10 bs r → is_some (whole_of bs) ≡ true → Agrees bs r
parse_agrees [] r h some = absurd (false≢true some)
parse_agrees (c ∷ cs) r h some = ⊎_elim negative plain (cases_eq c 45)
  where
    negative : c ≡ 45 → Agrees (c ∷ cs) r
    negative e =
        let d = sym (number_minus (c ∷ cs) cs (ap (λ x. x ∷ cs) e)) in
        let parts = numeral_parts cs (sym d ∙ some) in
        let whole : whole_of (c ∷ cs) ≡ Some (neg_ℤ (pos (value_after 0 cs))) = cond-true (eqb c 45) _ _ (eq-eqb c 45 e) ∙ ap minus (natural_some cs (sym d ∙ some)) in
        let m = mag_negative (value_after 0 cs) in
        converted_agrees (c ∷ cs) (neg_ℤ (pos (value_after 0 cs))) _ r whole (λ l. (parts.0, parts.1, m.0 l)) (λ p. m.1 p.2) (parse_signed_minus own w64 (c ∷ cs) r h e)

    plain : (c ≡ 45 → ⊥) → Agrees (c ∷ cs) r
    plain ne =
        let d = number_plain (c ∷ cs) (λ rest e. ne (ap (λ l. get_or l 0 0) e)) in
        let parts = numeral_parts (c ∷ cs) (d ∙ some) in
        let whole : whole_of (c ∷ cs) ≡ Some (pos (value_after 0 (c ∷ cs))) = cond-false (eqb c 45) _ _ (ne_eqb c 45 ne) ∙ ap plus (natural_some (c ∷ cs) (d ∙ some)) in
        converted_agrees (c ∷ cs) (pos (value_after 0 (c ∷ cs))) _ r whole (λ l. (parts.0, parts.1, l)) (λ p. p.2) (parse_signed_plain own w64 (c ∷ cs) r h (no_plus parts.0) ne)
      where
        no_plus : all_ascii_digits (c ∷ cs) ≡ true → c ≡ 43 → ⊥
        no_plus d e = grind (arith, nat_tests)

-- what is made of it
pub number_of_parse : {E : Type 0} (bs : List ℕ) (r : Result ℤ E) (s : Result ℤ LineError) (Q : E → LineError → Type 0) → Agrees bs r → MatchResult r (λ z. s ≡ Ok z) (λ e. IsErrAnd s (Q e)) → ((e : E) (y : LineError) → Q e y → y ≡ NumberTooLarge) → s ≡ number_of bs
number_of_parse bs (Ok z) s Q a m made = m ∙ sym a
number_of_parse bs (Err e) (Ok z) Q a m made = absurd m
number_of_parse bs (Err e) (Err y) Q a m made = ap Err (made e y m) ∙ sym a
