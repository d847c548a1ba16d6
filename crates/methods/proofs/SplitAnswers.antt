-- The row of a split, and its own part: what each way through its code answers.
use Rattle.std.proofs.Common.{◌≡◌, ℕ, ◌≤◌, not, ◌&&◌, ltb, leb, List, [], ◌∷◌, ◌++◌, length, take, drop, Ok, Err, Result, sym, ap, ◌∙◌, subst}
use Rattle.std.specs.Result.{MatchResult, IsErrAnd}
use Rattle.std.proofs.lemmas.List.{drop-take}
use Rattle.std.proofs.lemmas.Bool.{le-leb}
use Rattle.rows.specs.declared.fault.Fault.{Fault}
use Rattle.rows.specs.declared.fault.FaultKind.TheVariants.{CertificateLength, LayerRowTooLarge, NoRoomForFact}
use Rattle.rows.specs.declared.limits.Limit.TheVariants.{WrittenNumber}
use Rattle.rows.specs.declared.numbers.Numbers.{Numbers}
use Rattle.rows.specs.declared.numbers.TooLarge.{TooLarge}
use Rattle.rows.specs.declared.written.WrittenRow.{WrittenRow}
use Rattle.rows.specs.Faults.{Said, fault_of, ◌and_then◌, check, moved}
use Rattle.rows.specs.Limits.{items, magnitude_of}
use Rattle.rows.specs.Made.{FirstOver}
use Rattle.rows.specs.WrittenMade.{WrittenFrom}
use Rattle.rows.specs.Shapes.{Within, beyond, first_beyond, opposite_of}
use Rattle.rows.proofs.Chains.{stops, goes, checked}
use Rattle.rows.proofs.First.{none_first, some_first}
use Rattle.methods.specs.Openings.{most_facts}
use Rattle.methods.specs.Questions.{question, Meaning}
use Rattle.methods.specs.SplitsAsk.{SplitMade, halves}
use Rattle.methods.specs.Splits.{number_from, first_from, first_length, second_from, first_part, split_row, unless_written, split_tests, split_own}
use Rattle.methods.proofs.LayerAnswers.{room_count}

module _ (certificate : List ℕ) where
  pub row_short : (end : ℕ) (f : Fault) → end ≡ second_from certificate → Err f ≡ check (leb end (length certificate)) (fault_of CertificateLength 0 0 0) → Err f ≡ split_tests certificate
  unfolding split_tests
  row_short end f e h = stops _ _ f (h ∙ ap (λ (n : ℕ). check (leb n (length certificate)) (fault_of CertificateLength 0 0 0)) e)

  pub row_written : (numbers : Numbers) → second_from certificate ≤ length certificate → numbers ≡ split_row certificate → Within (magnitude_of WrittenNumber) numbers → Ok tt ≡ split_tests certificate
  unfolding split_tests first_beyond
  row_written numbers l e w =
      let v = subst (Within (magnitude_of WrittenNumber)) e w in
      goes _ _ _ (checked _ _ (le-leb _ _ l)) (sym (ap unless_written (none_first (beyond (magnitude_of WrittenNumber) (split_row certificate)) items (λ k h. ap not (v k h)))))

  pub row_too_large : (numbers : Numbers) (item : ℕ) → second_from certificate ≤ length certificate → numbers ≡ split_row certificate → FirstOver (magnitude_of WrittenNumber) numbers item →
      Err (fault_of LayerRowTooLarge (number_from item) 0 item) ≡ split_tests certificate
  unfolding split_tests first_beyond
  row_too_large numbers item l e h =
      let v = subst (λ (n : Numbers). FirstOver (magnitude_of WrittenNumber) n item) e h in
      goes _ _ _ (checked _ _ (le-leb _ _ l)) (sym (ap unless_written (some_first (beyond (magnitude_of WrittenNumber) (split_row certificate)) items item v.0 v.1 v.2)))

  -- the row that is made of the numbers, or the fault of the first that is too large
  pub row_made : (numbers : Numbers) (made : Result WrittenRow TooLarge) (said : Result WrittenRow Fault) → second_from certificate ≤ length certificate → numbers ≡ split_row certificate → WrittenFrom numbers made →
      MatchResult made (λ row. said ≡ Ok row) (λ e. IsErrAnd said (λ f. f ≡ fault_of LayerRowTooLarge (number_from e.item) 0 e.item)) → SplitMade certificate said
  row_made numbers (Ok row) said l e w h = subst (SplitMade certificate) (sym h) (row_written numbers l e w.1, w.0 ∙ e)
  row_made numbers (Err x) (Ok row) l e w h = absurd h
  row_made numbers (Err x) (Err f) l e w h = ap (λ (y : Fault). Err y) h ∙ row_too_large numbers x.item l e w

module _ (below : Meaning) (count : ℕ) (sheet : List Numbers) (goal : Numbers) (certificate : List ℕ) (within : count ≤ length sheet) where
  pub own_no_room : (f : Fault) → Err f ≡ check (ltb count most_facts && ltb count (length sheet)) (fault_of NoRoomForFact 0 0 0) → Err f ≡ split_own below (question (take count sheet) goal certificate (length sheet))
  unfolding split_own
  own_no_room f e = stops _ _ f (e ∙ room_count count sheet goal certificate within)

  module _ (m : Ok tt ≡ check (ltb count most_facts && ltb count (length sheet)) (fault_of NoRoomForFact 0 0 0)) where
    pub own_no_row : (f : Fault) → Err f ≡ split_tests certificate → Err f ≡ split_own below (question (take count sheet) goal certificate (length sheet))
    unfolding split_own
    own_no_row f e = goes _ _ _ (m ∙ room_count count sheet goal certificate within) (stops _ _ f e)

    -- the halves, as the code asks them
    pub own_both : (row : Numbers) (second : ℕ) (r : Said) → Ok tt ≡ split_tests certificate → row ≡ split_row certificate → second ≡ second_from certificate →
        r ≡ halves below row second (question (take count sheet) goal certificate (length sheet)) → r ≡ split_own below (question (take count sheet) goal certificate (length sheet))
    unfolding split_own
    own_both row second r t e s h =
        let part : drop first_from (take second certificate) ≡ first_part certificate = ap (λ (k : ℕ). drop first_from (take k certificate)) s ∙ drop-take first_from (first_length certificate) certificate in
        goes _ _ _ (m ∙ room_count count sheet goal certificate within)
        (goes _ _ _ t
        (h ∙ ap (λ (p : List ℕ). moved first_from (below (question (take count sheet ++ row ∷ []) goal p (length sheet))) and_then moved second (below (question (take count sheet ++ opposite_of row ∷ []) goal (drop second certificate) (length sheet)))) part
        ∙ ap (λ (x : Numbers). moved first_from (below (question (take count sheet ++ x ∷ []) goal (first_part certificate) (length sheet))) and_then moved second (below (question (take count sheet ++ opposite_of x ∷ []) goal (drop second certificate) (length sheet)))) e
        ∙ ap (λ (k : ℕ). moved first_from (below (question (take count sheet ++ split_row certificate ∷ []) goal (first_part certificate) (length sheet))) and_then moved k (below (question (take count sheet ++ opposite_of (split_row certificate) ∷ []) goal (drop k certificate) (length sheet)))) s))
