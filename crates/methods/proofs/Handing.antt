-- Asking the method below: the rest of the certificate, the places of its faults, and the facts under one more. Our layers
-- use what stands before `handed_answer`; that, `one_more` and `added_answer` are for a layer that asks below by itself.
use Rattle.std.proofs.Common.{◌≡◌, ℕ, ◌+◌, ◌^◌, ◌<◌, ◌≤◌, leb, List, [], ◌∷◌, ◌++◌, length, take, drop, set, Some, None, Ok, Err, Option, unwrap_or, sym, refl, ap, ◌∙◌, inl, inr, arith}
use Rattle.std.proofs.lemmas.Bool.{le-leb, cond-true}
use Rattle.std.proofs.lemmas.List.{drop_all, take_rest, length-drop, length-set, take_more_set, take-take, take-set}
use Rattle.std.specs.Borrow.{Bor}
use Rattle.std.specs.Slice.{IsGetRangeResult}
use Rattle.rows.specs.declared.fault.Fault.{Fault}
use Rattle.rows.specs.declared.numbers.Numbers.{Numbers}
use Rattle.rows.specs.Faults.{Said, Movable, moved}
use Rattle.methods.specs.Questions.{question, Meaning, Lawful, asked}
use Rattle.methods.proofs.AskAnswers.{placed_answer}
use Rattle.methods.proofs.Asked.{asked_within}

movable_from : (offset n : ℕ) (said : Said) → ((f : Fault) → said ≡ Err f → f.place ≤ n) → n + offset < 2 ^ 64 → Movable offset said
movable_from offset n (Ok u) h l = tt
movable_from offset n (Err f) h l = let p = h f refl in omega arith

-- the certificate from an offset on, which is empty past its end
pub rest_from : (certificate : List ℕ) (offset : ℕ) (part : Option (Bor (List ℕ))) (empty rest : Bor (List ℕ)) → empty.now ≡ [] → IsGetRangeResult certificate offset (length certificate) part → rest ≡ unwrap_or part empty → rest.now ≡ drop offset certificate
rest_from certificate offset None empty rest n h e =
    let l : length certificate ≤ offset = elim h.0 [ inl a ↦ omega arith | inr b ↦ absurd (omega arith) ] in
    ap (λ (r : Bor (List ℕ)). r.now) e ∙ n ∙ sym (drop_all offset certificate l)
rest_from certificate offset (Some part) empty rest n h e =
    ap (λ (r : Bor (List ℕ)). r.now) e ∙ h.0.2 ∙ take_rest certificate offset

-- the places of a lawful method's faults about the certificate from an offset on can all be moved by it
pub below_movable : (meaning : Meaning) (lawful : Lawful meaning) (count : ℕ) (sheet : List Numbers) (goal : Numbers) (certificate : List ℕ) (offset : ℕ) → length certificate < 2 ^ 64 → offset < 2 ^ 64 →
    Movable offset (asked meaning count sheet goal (drop offset certificate))
below_movable meaning lawful count sheet goal certificate offset c o =
    movable_from offset (length (drop offset certificate)) _ (placed_answer meaning lawful count sheet goal (drop offset certificate) _ refl) (omega (arith, length-drop offset certificate))

-- the facts stay under one more that is put behind them
pub kept_under : (count : ℕ) (last sheet : List Numbers) (fact : Numbers) → take (count + 1) last ≡ take (count + 1) (set sheet count fact) → take count last ≡ take count sheet
kept_under count last sheet fact e =
    let l : count ≤ count + 1 = omega arith in
    sym (take-take count (count + 1) last l) ∙ ap (take count) e ∙ take-take count (count + 1) (set sheet count fact) l ∙ take-set sheet count fact

module _ (meaning : Meaning) (lawful : Lawful meaning) (count : ℕ) (sheet : List Numbers) (goal : Numbers) (part : List ℕ) (offset : ℕ) where
  within : count ≤ length sheet → asked meaning count sheet goal part ≡ meaning (question (take count sheet) goal part (length sheet))
  within l = cond-true (leb count (length sheet)) _ _ (le-leb _ _ l)

  -- the answer below, moved
  pub handed_answer : (said r : Said) → count ≤ length sheet → length part + offset < 2 ^ 64 → said ≡ asked meaning count sheet goal part →
      (Movable offset said → r ≡ moved offset said) → r ≡ moved offset (meaning (question (take count sheet) goal part (length sheet)))
  handed_answer said r l s e m =
      let w = e ∙ within l in
      m (movable_from offset (length part) said (λ f x. lawful.placed (question (take count sheet) goal part (length sheet)) f (sym w ∙ x)) s) ∙ ap (moved offset) w

-- the sheet with one more fact behind the others
pub one_more : (count : ℕ) (sheet : List Numbers) (fact : Numbers) → count < length sheet → take (count + 1) (set sheet count fact) ≡ take count sheet ++ fact ∷ []
one_more count sheet fact l = take_more_set sheet count fact l

-- the answer below about the facts with one more
pub added_answer : (meaning : Meaning) (count : ℕ) (sheet : List Numbers) (fact goal : Numbers) (part : List ℕ) (offset : ℕ) (r : Said) → count < length sheet →
    r ≡ moved offset (meaning (question (take (count + 1) (set sheet count fact)) goal part (length (set sheet count fact)))) →
    r ≡ moved offset (meaning (question (take count sheet ++ fact ∷ []) goal part (length sheet)))
added_answer meaning count sheet fact goal part offset r l e =
    e ∙ ap (λ (fs : List Numbers). moved offset (meaning (question fs goal part (length (set sheet count fact))))) (one_more count sheet fact l)
    ∙ ap (λ (n : ℕ). moved offset (meaning (question (take count sheet ++ fact ∷ []) goal part n))) (length-set sheet count fact)

-- the same from what `ask_below` answers about the sheet with one more fact
pub added_asked : (meaning : Meaning) (count : ℕ) (sheet : List Numbers) (fact goal : Numbers) (rest : List ℕ) (offset : ℕ) (r : Said) → count < length sheet →
    r ≡ moved offset (asked meaning (count + 1) (set sheet count fact) goal rest) →
    r ≡ moved offset (meaning (question (take count sheet ++ fact ∷ []) goal rest (length sheet)))
added_asked meaning count sheet fact goal rest offset r l e =
    let within : count + 1 ≤ length (set sheet count fact) = omega (arith, length-set sheet count fact) in
    added_answer meaning count sheet fact goal rest offset r l (e ∙ ap (moved offset) (asked_within (count + 1) (set sheet count fact) goal rest meaning within))
