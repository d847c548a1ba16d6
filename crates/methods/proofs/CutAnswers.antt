-- The own part of a cut: what each way through its code answers.
use Rattle.std.proofs.Common.{◌≡◌, ℕ, ◌+◌, ◌*◌, ◌≤◌, ◌&&◌, ltb, List, [], ◌∷◌, ◌++◌, length, take, drop, Ok, Err, sym, ap, ◌∙◌}
use Rattle.std.proofs.lemmas.List.{length-take-le}
use Rattle.rows.specs.declared.fault.Fault.{Fault}
use Rattle.rows.specs.declared.fault.FaultKind.TheVariants.{NoRoomForFact}
use Rattle.rows.specs.declared.numbers.Numbers.{Numbers}
use Rattle.rows.specs.Faults.{Said, fault_of, check, moved}
use Rattle.rows.proofs.Chains.{stops, goes}
use Rattle.methods.specs.Cuts.{cut_weights_from, cut_end, cut_row, cut_tests, cut_own}
use Rattle.methods.specs.Openings.{most_facts}
use Rattle.methods.specs.Questions.{question, Meaning}
use Rattle.methods.proofs.LayerAnswers.{room_count}

module _ (below : Meaning) (count : ℕ) (sheet : List Numbers) (goal : Numbers) (certificate : List ℕ) (within : count ≤ length sheet) where
  pub own_no_room : (f : Fault) → Err f ≡ check (ltb count most_facts && ltb count (length sheet)) (fault_of NoRoomForFact 0 0 0) → Err f ≡ cut_own below (question (take count sheet) goal certificate (length sheet))
  unfolding cut_own
  own_no_room f e = stops _ _ f (e ∙ room_count count sheet goal certificate within)

  pub own_no_row : (f : Fault) → Ok tt ≡ check (ltb count most_facts && ltb count (length sheet)) (fault_of NoRoomForFact 0 0 0) → Err f ≡ cut_tests (take count sheet) certificate →
      Err f ≡ cut_own below (question (take count sheet) goal certificate (length sheet))
  unfolding cut_own
  own_no_row f r e = goes _ _ _ (r ∙ room_count count sheet goal certificate within) (stops _ _ f e)

  pub own_asked_lem : (r : Said) (row : Numbers) → Ok tt ≡ check (ltb count most_facts && ltb count (length sheet)) (fault_of NoRoomForFact 0 0 0) →
      Ok tt ≡ cut_tests (take count sheet) certificate → row ≡ cut_row (take count sheet) certificate →
      r ≡ moved (cut_weights_from + 2 * count) (below (question (take count sheet ++ row ∷ []) goal (drop (cut_weights_from + 2 * count) certificate) (length sheet))) →
      r ≡ cut_own below (question (take count sheet) goal certificate (length sheet))
  unfolding cut_own
  own_asked_lem r row m t e h =
      let n : cut_weights_from + 2 * count ≡ cut_end (take count sheet) = ap (λ (k : ℕ). cut_weights_from + 2 * k) (sym (length-take-le count sheet within)) in
      goes _ _ _ (m ∙ room_count count sheet goal certificate within)
      (goes _ _ _ t
      (h ∙ ap (λ (x : Numbers). moved (cut_weights_from + 2 * count) (below (question (take count sheet ++ x ∷ []) goal (drop (cut_weights_from + 2 * count) certificate) (length sheet)))) e
      ∙ ap (λ (k : ℕ). moved k (below (question (take count sheet ++ cut_row (take count sheet) certificate ∷ []) goal (drop k certificate) (length sheet)))) n))
