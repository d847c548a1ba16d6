-- Arguments put together from what their words were read as.
use Rattle.std.proofs.Common.{◌≡◌, ℕ, suc, ◌+◌, ◌-◌, ◌<◌, List, [], ◌∷◌, ◌++◌, length, get_or, take, set, ℤ, pos, IsErrAnd, Ok, Err, Result, sym, refl, ap, ◌∙◌, arith}
use Rattle.std.proofs.lemmas.List.{take_more_set, length-set, take_all, take_at, get_or_at}
use Rattle.std.proofs.lemmas.Result.{err_from_is_err_and}
use Rattle.words.specs.declared.errors.LineError.{LineError}
use Rattle.words.specs.declared.errors.LineError.TheVariants.{TooManyWords}
use Rattle.words.specs.Arguments.{and_then, rest_of, ended, first_number, numbers_after, shape, nine_numbers, EightRead}

-- an error that is handed on
pub handed_err : {X : Type 0} (r : Result X LineError) (e : LineError) → IsErrAnd r (λ y. y ≡ e) → r ≡ Err e
handed_err r e h = let p = err_from_is_err_and r h in p.1 ∙ ap Err p.2

-- the end of a line, with another value
pub ended_ok : {X Y : Type 0} (x : X) (y : Y) (ws : List (List ℕ)) → ended x ws ≡ Ok x → ended y ws ≡ Ok y
ended_ok x y [] h = refl
ended_ok x y (w ∷ ws) h = let z : ◌≡◌ {A = ℕ} 0 1 = cc in absurd (omega arith)

pub ended_err : {X Y : Type 0} (x : X) (y : Y) (ws : List (List ℕ)) (e : LineError) → ended x ws ≡ Err e → ended y ws ≡ Err e
ended_err x y [] e h = let z : ◌≡◌ {A = ℕ} 0 1 = cc in absurd (omega arith)
ended_err x y (w ∷ ws) e h = let k : TooManyWords ≡ e = cc in ap Err k

-- nine numbers, one by one
module _ (done : List ℤ) (k m : ℕ) (ws : List (List ℕ)) (more : k ≡ suc m) where
  pub numbers_more : (z : ℤ) → first_number ws ≡ Ok z → numbers_after done k ws ≡ numbers_after (done ++ z ∷ []) m (rest_of ws)
  numbers_more z h = ap (λ n. numbers_after done n ws) more ∙ ap (λ r. and_then r (λ z. numbers_after (done ++ z ∷ []) m (rest_of ws))) h

  pub numbers_stop : (e : LineError) → first_number ws ≡ Err e → numbers_after done k ws ≡ Err e
  numbers_stop e h = ap (λ n. numbers_after done n ws) more ∙ ap (λ r. and_then r (λ z. numbers_after (done ++ z ∷ []) m (rest_of ws))) h

pub nine_err : (ws : List (List ℕ)) (e : LineError) → numbers_after [] 9 ws ≡ Err e → nine_numbers ws ≡ Err e
unfolding nine_numbers
nine_err ws e h = ap (λ r. and_then r (λ zs. Ok (shape zs))) h

pub nine_ok : (ws : List (List ℕ)) (zs : List ℤ) → numbers_after [] 9 ws ≡ Ok zs → nine_numbers ws ≡ Ok (shape zs)
unfolding nine_numbers
nine_ok ws zs h = ap (λ r. and_then r (λ zs. Ok (shape zs))) h

-- the first of the eight coefficients, and the words that are left
pub record Reading (before : List (List ℕ)) (items : List ℤ) (i : ℕ) (left : List (List ℕ)) : Type 0 where
  pub long : length items ≡ 8
  pub same : numbers_after (take i items) (9 - i) left ≡ numbers_after [] 9 before

pub reading_more : (before : List (List ℕ)) (items : List ℤ) (i : ℕ) (v z : ℤ) (ws vs : List (List ℕ)) → i < 8 → v ≡ z → first_number ws ≡ Ok z → vs ≡ rest_of ws → Reading before items i ws → Reading before (set items i v) (i + 1) vs
reading_more before items i v z ws vs small e first rest r =
    let kept : take (i + 1) (set items i v) ≡ take i items ++ z ∷ [] = take_more_set items i v (omega (arith, r.long)) ∙ ap (λ x. take i items ++ x ∷ []) e in
    record {
      long = length-set _ _ _ ∙ r.long;
      same = (λ j. numbers_after (kept j) (9 - (i + 1)) (rest j)) ∙ sym (numbers_more (take i items) (9 - i) (9 - (i + 1)) ws (omega arith) z first) ∙ r.same;
    }

pub reading_stops : (before : List (List ℕ)) (items : List ℤ) (i : ℕ) (ws after : List (List ℕ)) (e : LineError) (r : Result (List ℤ) LineError) → i < 8 → first_number ws ≡ Err e → Reading before items i ws → IsErrAnd r (λ y. y ≡ e) → EightRead before after r
reading_stops before items i ws after e (Ok zs) small first r h = absurd h
reading_stops before items i ws after e (Err f) small first r h = record {
  long = tt;
  ok = tt;
  err = sym r.same ∙ numbers_stop (take i items) (9 - i) (9 - (i + 1)) ws (omega arith) e first ∙ ap Err (sym h);
}

pub reading_ends : (before : List (List ℕ)) (items : List ℤ) (after : List (List ℕ)) → Reading before items 8 after → EightRead before after (Ok items)
reading_ends before items after r = record {
  long = r.long;
  ok = ap (λ l. numbers_after l 1 after) (sym (take_all 8 items (omega (arith, r.long)))) ∙ r.same;
  err = tt;
}

pub shape_is : (coefs : List ℤ) (b v : ℤ) → length coefs ≡ 8 → v ≡ b → record { coefficients = coefs; bound = v } ≡ shape (coefs ++ b ∷ [])
shape_is coefs b v long e =
    let front : coefs ≡ take 8 (coefs ++ b ∷ []) = sym (take_at coefs (b ∷ []) 8 long) in
    let last : v ≡ get_or (coefs ++ b ∷ []) 8 (pos 0) = e ∙ sym (get_or_at coefs b [] (pos 0) 8 long) in
    (λ j. record { coefficients = front j; bound = last j })
