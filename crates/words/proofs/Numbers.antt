-- Nine numbers that are written are read again, and numbers that are read fit 64 bits.
use Rattle.std.proofs.Common.{◌≡◌, ℕ, zero, suc, ◌+◌, ◌^◌, ◌<◌, List, [], ◌∷◌, ◌++◌, map, length, get_or, take, ℤ, pos, Some, None, Ok, Err, Option, Result, sym, refl, ap, ◌∙◌, subst, append_assoc, append-nil, add-zero, arith}
use lib.Signed.{mag}
use Rattle.std.specs.List.{AllByRecursion}
use Rattle.std.specs.Fmt.{signed_decimal}
use Rattle.std.proofs.lemmas.List.{length-take-le, take_all, length-append, length_push, take_more}
use Rattle.std.proofs.lemmas.Bool.{cond_both, ltb-true}
use Rattle.std.proofs.ByRecursion.{All-push}
use Rattle.rows.specs.declared.numbers.Numbers.{Numbers}
use Rattle.words.specs.declared.errors.LineError.{LineError}
use Rattle.words.specs.declared.errors.LineError.TheVariants.{NotANumber, NumberTooLarge, TooManyWords, TooFewWords}
use Rattle.words.specs.Numerals.{whole_of, fits64, in_range, number_of}
use Rattle.words.specs.Arguments.{and_then, rest_of, ended, first_number, numbers_after, shape, nine_numbers, items_of, Nine, NumbersRead}
use Rattle.words.proofs.Decimal.{decimals_read}
use Rattle.words.proofs.Reading.{numbers_more, nine_ok, shape_is}

-- numbers that are written are read again
numbers_written : (done zs : List ℤ) → AllByRecursion (λ z. mag z < 2 ^ 63) zs → numbers_after done (length zs) (map signed_decimal zs) ≡ Ok (done ++ zs)
numbers_written done [] h = ap Ok (sym (append-nil done))
numbers_written done (z ∷ zs) h =
    numbers_more done (length (z ∷ zs)) (length zs) (map signed_decimal (z ∷ zs)) refl z (decimals_read z h.0)
    ∙ numbers_written (done ++ z ∷ []) zs h.1 ∙ ap Ok (append_assoc done (z ∷ []) zs)

back : (r : Numbers) → Nine r → nine_numbers (map signed_decimal (items_of r)) ≡ Ok r
back r nine =
    let long : length (items_of r) ≡ 9 = length-append r.coefficients (r.bound ∷ []) ∙ ap (λ n. n + 1) nine.0 in
    nine_ok (map signed_decimal (items_of r)) (items_of r) (ap (λ n. numbers_after [] n (map signed_decimal (items_of r))) (sym long) ∙ numbers_written [] (items_of r) nine.1)
    ∙ ap Ok (sym (shape_is r.coefficients r.bound r.bound nine.0 refl))

-- an error is no value
pub refused : {X Y : Type 0} (e : LineError) (x : X) → ◌≡◌ {A = Result X LineError} (Err e) (Ok x) → Y
refused e x h = let z : ◌≡◌ {A = ℕ} 0 1 = cc in absurd (omega arith)

-- what was read on the way to a value
pub then_parts : {X Y : Type 0} (r : Result X LineError) (f : X → Result Y LineError) (y : Y) → and_then r f ≡ Ok y → (x : X) × ((r ≡ Ok x) × (f x ≡ Ok y))
then_parts (Ok x) f y h = (x, (refl, h))
then_parts (Err e) f y h = refused e y h

pub ended_value : {X : Type 0} (x y : X) (ws : List (List ℕ)) → ended x ws ≡ Ok y → x ≡ y
ended_value x y [] h = cc
ended_value x y (w ∷ ws) h = refused TooManyWords y h

-- numbers that are read fit 64 bits
number_small : (w : List ℕ) (z : ℤ) → number_of w ≡ Ok z → mag z < 2 ^ 63
unfolding number_of
number_small w z h = small (whole_of w) h
  where
    small : (o : Option ℤ) → in_range o ≡ Ok z → mag z < 2 ^ 63
    small None h = refused NotANumber z h
    small (Some y) h =
        cond_both (fits64 y) (Ok y) (Err NumberTooLarge) (λ r. r ≡ Ok z → mag z < 2 ^ 63)
        (λ t e. let same : y ≡ z = cc in subst (λ x. mag x < 2 ^ 63) same (ltb-true _ _ t)) (λ _ e. refused NumberTooLarge z e) h

first_small : (ws : List (List ℕ)) (z : ℤ) → first_number ws ≡ Ok z → mag z < 2 ^ 63
first_small [] z h = refused TooFewWords z h
first_small (w ∷ ws) z h = number_small w z h

abbrev Small : ℤ → Type 0
Small z = mag z < 2 ^ 63

numbers_small : (done : List ℤ) (n : ℕ) (ws : List (List ℕ)) (zs : List ℤ) → AllByRecursion Small done → numbers_after done n ws ≡ Ok zs → AllByRecursion Small zs × (length zs ≡ length done + n)
numbers_small done zero ws zs h e =
    let same = ended_value done zs ws e in
    (subst (AllByRecursion Small) same h, sym (ap length same) ∙ sym (add-zero (length done)))
numbers_small done (suc n) ws zs h e =
    let p = then_parts (first_number ws) (λ z. numbers_after (done ++ z ∷ []) n (rest_of ws)) zs e in
    let q = numbers_small (done ++ p.0 ∷ []) n (rest_of ws) zs (All-push Small done p.0 h (first_small ws p.0 p.1.0)) p.1.1 in
    (q.0, omega (arith, q.1, length_push done p.0))

only : (ws : List (List ℕ)) (r : Numbers) → nine_numbers ws ≡ Ok r → Nine r
unfolding nine_numbers
only ws r h =
    let p = then_parts (numbers_after [] 9 ws) (λ zs. Ok (shape zs)) r h in
    let q = numbers_small [] 9 ws p.0 tt p.1.0 in
    let same : shape p.0 ≡ r = let e = p.1.1 in cc in
    subst Nine same (nine_shape p.0 q.0 q.1)
  where
    nine_shape : (zs : List ℤ) → AllByRecursion Small zs → length zs ≡ length {A = ℤ} [] + 9 → Nine (shape zs)
    nine_shape zs small long =
        let whole : zs ≡ take 8 zs ++ get_or zs 8 (pos 0) ∷ [] = sym (take_all 9 zs (omega arith)) ∙ take_more zs 8 (pos 0) (omega arith) in
        (length-take-le 8 zs (omega arith), subst (AllByRecursion Small) whole small)

pub numbers_read : NumbersRead
numbers_read = record { back = back; only = only }
