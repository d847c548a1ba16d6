-- Texts cut into pieces and lines cut into words, put together from their parts.
use Rattle.std.proofs.Common.{◌≡◌, ℕ, ◌<◌, ◌≤◌, Bool, true, false, not, List, [], ◌∷◌, ◌++◌, length, get_or, take, drop, unwrap_or, Some, None, Option, sym, refl, ap, ◌∙◌, subst, ⊎_elim, inl, inr, append-nil, add-zero, arith}
use Rattle.std.specs.List.{AllByRecursion, position, position_or_len}
use Rattle.std.proofs.lemmas.List.{take-append-drop, length-take-le, get_or-take, get_or-drop, length-drop, drop_all, nil_from_length}
use Rattle.std.proofs.lemmas.List.Quantifiers.{position-Some}
use Rattle.std.proofs.lemmas.List.Sums.{fails_before_first}
use Rattle.std.proofs.ByRecursion.{All-from_get_or}
use Rattle.std.proofs.lemmas.Bool.{cond-true, cond-false, cond_both, both_ways, not-true, not-false, cases_lt, lt-ltb}
use Rattle.words.specs.Words.{separator, Front, onto, pieces, filled, words_of, Word, spaced, WordsRead}

module _ (cut : ℕ → Bool) where
  -- a text that is not cut
  pub pieces_whole : (xs : List ℕ) → AllByRecursion (λ b. cut b ≡ false) xs → pieces cut xs ≡ xs ∷ []
  pieces_whole [] h = refl
  pieces_whole (x ∷ xs) h = cond-false (cut x) _ _ h.0 ∙ ap (onto x) (pieces_whole xs h.1)

  -- a text up to its first cut
  pub pieces_at_lem : (xs ys : List ℕ) (c : ℕ) → AllByRecursion (λ b. cut b ≡ false) xs → cut c ≡ true → pieces cut (xs ++ c ∷ ys) ≡ xs ∷ pieces cut ys
  pieces_at_lem [] ys c h e = cond-true (cut c) _ _ e
  pieces_at_lem (x ∷ xs) ys c h e = cond-false (cut x) _ _ h.0 ∙ ap (onto x) (pieces_at_lem xs ys c h.1 e)

filled_some : (w : List ℕ) (ps : List (List ℕ)) → 0 < length w → filled (w ∷ ps) ≡ w ∷ filled ps
filled_some [] ps h = absurd (omega arith)
filled_some (b ∷ bs) ps h = refl

-- separators in front make no word
pub words_blank : (xs ys : List ℕ) → AllByRecursion (λ b. separator b ≡ true) xs → words_of (xs ++ ys) ≡ words_of ys
unfolding words_of
words_blank [] ys h = refl
words_blank (x ∷ xs) ys h = ap filled (cond-true (separator x) _ _ h.0) ∙ words_blank xs ys h.1

-- a word in front, before nothing or a separator
pub words_more : (w zs : List ℕ) → Word w → (0 < length zs → separator (get_or zs 0 0) ≡ true) → words_of (w ++ zs) ≡ w ∷ words_of zs
unfolding words_of
words_more w [] h e = ap filled (ap (pieces separator) (append-nil w) ∙ pieces_whole separator w h.1) ∙ filled_some w [] h.0
words_more w (z ∷ zs) h e =
    ap filled (pieces_at_lem separator w zs z h.1 (e (omega arith)))
    ∙ filled_some w _ h.0
    ∙ ap (λ ps. w ∷ filled ps) (sym (cond-true (separator z) _ _ (e (omega arith))))

-- the place of the first byte that ends a front, or the end
module _ (blank : Bool) (ends : ℕ → Bool) (unlike : (b : ℕ) → ends b ≡ true → separator b ≡ not blank) (alike : (b : ℕ) → ends b ≡ false → separator b ≡ blank) (bs : List ℕ) where
  front_at : (r : Option ℕ) → r ≡ position ends bs → Front blank bs (unwrap_or r (length bs))
  front_at None e = record { within = omega arith; all = λ k l. alike _ (fails_before_first ends bs k 0 (omega (arith, all, l))); stops = λ l. absurd (omega arith) }
    where
      -- the search ends behind the last byte
      all : length bs ≤ position_or_len ends bs
      all =
          elim (cases_lt (position_or_len ends bs) (length bs)) [
            | inl l ↦ let z : ◌≡◌ {A = Option ℕ} None (Some (position_or_len ends bs)) = e ∙ cond-true _ _ _ (lt-ltb _ _ l) in absurd (cc)
            | inr l ↦ l
          ]
  front_at (Some i) e = let p = position-Some ends bs i 0 (sym e) in record { within = omega (arith, p.0); all = λ k l. alike _ (p.2 k l); stops = λ _. unlike _ p.1 }

-- the separators in front
pub blanks_found : (bs : List ℕ) (r : Option ℕ) → r ≡ position (λ b. not (separator b)) bs → Front true bs (unwrap_or r (length bs))
blanks_found = front_at true (λ b. not (separator b)) (λ b h. not-true _ h) (λ b h. not-false _ h)

-- what stands before the first separator
pub word_found : (bs : List ℕ) (r : Option ℕ) → r ≡ position separator bs → Front false bs (unwrap_or r (length bs))
word_found = front_at false separator (λ b h. h) (λ b h. h)

front_all : {t : Bool} {bs : List ℕ} {n : ℕ} → Front t bs n → AllByRecursion (λ x. separator x ≡ t) (take n bs)
front_all {t} {bs} {n} f =
    let long = length-take-le n bs f.within in
    All-from_get_or (λ x. separator x ≡ t) (take n bs) 0 (λ i h. ap separator (get_or-take n bs i 0 (omega arith)) ∙ f.all i (omega arith))

-- a line is separators, a word and what is left
pub record Cut (line text word rest : List ℕ) (b n : ℕ) : Type 0 where
  pub gap : Front true line b
  pub after : text ≡ drop b line
  pub solid : Front false text n
  pub front : word ≡ take n text
  pub back : rest ≡ drop n text

module _ {line text word rest : List ℕ} {b n : ℕ} (cut : Cut line text word rest b n) where
  after_gap : words_of line ≡ words_of text
  after_gap = ap words_of (sym (take-append-drop b line)) ∙ words_blank (take b line) (drop b line) (front_all cut.gap) ∙ ap words_of (sym cut.after)

  -- the first word and the others
  pub first_word : 0 < length word → (words_of line ≡ word ∷ words_of rest) × (length rest < length line)
  first_word some =
      let size = ap length cut.front ∙ length-take-le n text cut.solid.within in
      let left = ap length cut.back ∙ length-drop n text in
      let next : get_or rest 0 0 ≡ get_or text n 0 = ap (λ l. get_or l 0 0) cut.back ∙ get_or-drop n text 0 0 ∙ ap (λ i. get_or text i 0) (add-zero n) in
      let whole : text ≡ word ++ rest = sym (take-append-drop n text) ∙ (λ i. sym cut.front i ++ sym cut.back i) in
      let solid : AllByRecursion (λ x. separator x ≡ false) word = subst (AllByRecursion (λ x. separator x ≡ false)) (sym cut.front) (front_all cut.solid) in (
        after_gap ∙ ap words_of whole ∙ words_more word rest (some, solid) (λ h. ap separator next ∙ cut.solid.stops (omega arith)),
        omega (arith, ap length cut.after, length-drop b line, cut.solid.within),
      )

  -- no word is left
  pub no_word : length word ≡ 0 → (words_of line ≡ []) × (words_of rest ≡ [])
  unfolding words_of
  no_word none = (after_gap ∙ ap words_of empty, ap words_of (cut.back ∙ ap (drop n) empty ∙ drop_all n [] (omega arith)))
    where
      size : n ≡ 0
      size = omega (arith, ap length cut.front ∙ length-take-le n text cut.solid.within)

      first : get_or text 0 0 ≡ get_or line b 0
      first = ap (λ l. get_or l 0 0) cut.after ∙ get_or-drop b line 0 0 ∙ ap (λ i. get_or line i 0) (add-zero b)

      unlike : 0 < length text → ⊥
      unlike some =
          both_ways (separator (get_or text 0 0))
          (ap separator first ∙ cut.gap.stops (omega (arith, ap length cut.after, length-drop b line)))
          (ap (λ i. separator (get_or text i 0)) (sym size) ∙ cut.solid.stops (omega (arith, size)))

      empty : text ≡ []
      empty = nil_from_length text (⊎_elim (λ h. absurd (unlike h)) (λ h. omega arith) (cases_lt 0 (length text)))

-- words that are written are read again
back : (ws : List (List ℕ)) → AllByRecursion Word ws → words_of (spaced ws) ≡ ws
unfolding words_of
back [] h = refl
back (w ∷ ws) h =
    words_blank (32 ∷ []) (w ++ spaced ws) (refl, tt) ∙ words_more w (spaced ws) h.0 (gap ws) ∙ ap (λ vs. w ∷ vs) (back ws h.1)
  where
    gap : (vs : List (List ℕ)) → 0 < length (spaced vs) → separator (get_or (spaced vs) 0 0) ≡ true
    gap [] l = absurd (omega arith)
    gap (v ∷ vs) l = refl

-- a piece holds nothing to cut at
abbrev Clean : (ℕ → Bool) → List ℕ → Type 0
Clean cut p = AllByRecursion (λ b. cut b ≡ false) p

clean_onto : (cut : ℕ → Bool) (b : ℕ) (ps : List (List ℕ)) → cut b ≡ false → AllByRecursion (Clean cut) ps → AllByRecursion (Clean cut) (onto b ps)
clean_onto cut b [] e h = ((e, tt), tt)
clean_onto cut b (p ∷ ps) e h = ((e, h.0), h.1)

clean_pieces : (cut : ℕ → Bool) (bs : List ℕ) → AllByRecursion (Clean cut) (pieces cut bs)
clean_pieces cut [] = (tt, tt)
clean_pieces cut (b ∷ bs) =
    cond_both (cut b) ([] ∷ pieces cut bs) (onto b (pieces cut bs)) (AllByRecursion (Clean cut))
    (λ _. (tt, clean_pieces cut bs)) (λ e. clean_onto cut b (pieces cut bs) e (clean_pieces cut bs))

filled_words : (ps : List (List ℕ)) → AllByRecursion (Clean separator) ps → AllByRecursion Word (filled ps)
filled_words [] h = tt
filled_words ([] ∷ ps) h = filled_words ps h.1
filled_words ((b ∷ bs) ∷ ps) h = ((omega arith, h.0), filled_words ps h.1)

only : (line : List ℕ) → AllByRecursion Word (words_of line)
unfolding words_of
only line = filled_words (pieces separator line) (clean_pieces separator line)

pub words_read : WordsRead
words_read = record { back = back; only = only }
