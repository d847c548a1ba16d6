-- Proofs, and nothing to believe: the laws of the split over any lawful method. They stand here since the layer's
-- contract hands them on, and a contract may name no file of proofs/.
use Rattle.std.specs.Prelude.{◌≡◌, ℕ, ◌<◌, ◌≤◌, List, [], ◌∷◌, ◌++◌, length, drop, ℤ, Some, None, Ok, Err, Option, nat_le, refl}
use Rattle.std.proofs.Common.{sym, ap, ◌∙◌, arith}
use Rattle.std.proofs.ByRecursion.{All-push}
use Rattle.std.proofs.lemmas.List.{length-take, length-drop}
use Rattle.std.proofs.lemmas.Int.{ints, by_lt_z}
use Rattle.std.proofs.lemmas.Bool.{leb-true, not-false}
use Rattle.rows.specs.declared.fault.Fault.{Fault}
use Rattle.rows.specs.declared.fault.FaultKind.TheVariants.{CertificateLength, LayerRowTooLarge, NoRoomForFact}
use Rattle.rows.specs.declared.limits.Limit.TheVariants.{WrittenNumber}
use Rattle.rows.specs.declared.numbers.Numbers.{Numbers}
use Rattle.rows.specs.Faults.{Said, fault_of, ◌and_then◌, check, moved}
use Rattle.rows.specs.Limits.{items, magnitude_of}
use Rattle.rows.specs.Shapes.{Within, beyond, first_beyond, dot, Meets, opposite_of}
use Rattle.rows.proofs.Chains.{never, both, check_true, either, check_first, check_place}
use Rattle.rows.proofs.First.{first_none, first_some}
use Rattle.rows.proofs.Opposites.{opposite_turns}
use Rattle.methods.specs.LayerLaws.{moved_yes, moved_place, lower_place, OwnLaws, layer_lawful}
use Rattle.methods.specs.Layers.{adding, room_says}
use Rattle.methods.specs.Questions.{Question, question, Meaning, Lawful}
use Rattle.methods.specs.Splits.{number_from, first_from, first_length, second_from, first_part, second_part, split_row, unless_written, split_tests, split_own, split_says}

-- what a yes of the tests says
pub record SplitPassed (certificate : List ℕ) : Type 0 where
  pub long : second_from certificate ≤ length certificate
  pub written : Within (magnitude_of WrittenNumber) (split_row certificate)

written_none : (o : Option ℕ) → unless_written o ≡ Ok tt → o ≡ None
written_none None e = refl
written_none (Some i) e = never _ e

pub split_passed : (certificate : List ℕ) → split_tests certificate ≡ Ok tt → SplitPassed certificate
unfolding split_tests first_beyond
split_passed certificate e =
    let a = both (check (nat_le (second_from certificate) (length certificate)) (fault_of CertificateLength 0 0 0)) (unless_written (first_beyond (magnitude_of WrittenNumber) (split_row certificate))) e in
    record {
      long = leb-true _ _ (check_true _ _ a.0);
      written = λ k l. not-false _ (first_none (beyond (magnitude_of WrittenNumber) (split_row certificate)) items (written_none _ a.1) k l);
    }

written_place : (o : Option ℕ) (f : Fault) → unless_written o ≡ Err f → ((i : ℕ) → o ≡ Some i → i < items) → f.place < number_from items
written_place None f e h = never f (sym e)
written_place (Some i) f e h =
    let s : fault_of LayerRowTooLarge (number_from i) 0 i ≡ f = cc in
    let p : number_from i ≡ f.place = ap (λ (x : Fault). x.place) s in
    let l = h i refl in
    omega arith

tests_placed : (certificate : List ℕ) (f : Fault) → split_tests certificate ≡ Err f → f.place ≤ length certificate
unfolding split_tests first_beyond
tests_placed certificate f e =
    check_first (nat_le (second_from certificate) (length certificate)) CertificateLength 0 (unless_written (first_beyond (magnitude_of WrittenNumber) (split_row certificate))) f e
    (λ z. omega arith)
    (λ t h. let w = leb-true (second_from certificate) (length certificate) t in
    let p = written_place _ f h (λ i x. first_some (beyond (magnitude_of WrittenNumber) (split_row certificate)) items i x) in
    omega arith)

-- the parts of a yes of the own part
pub split_own_yes : (below : Meaning) (q : Question) → split_own below q ≡ Ok tt →
    (room_says q ≡ Ok tt) × (split_tests q.certificate ≡ Ok tt) × (below (adding (split_row q.certificate) (first_part q.certificate) q) ≡ Ok tt) × (below (adding (opposite_of (split_row q.certificate)) (second_part q.certificate) q) ≡ Ok tt)
unfolding split_own
split_own_yes below q e =
    let a = both (room_says q) (split_tests q.certificate and_then moved first_from (below (adding (split_row q.certificate) (first_part q.certificate) q)) and_then moved (second_from q.certificate) (below (adding (opposite_of (split_row q.certificate)) (second_part q.certificate) q))) e in
    let b = both (split_tests q.certificate) (moved first_from (below (adding (split_row q.certificate) (first_part q.certificate) q)) and_then moved (second_from q.certificate) (below (adding (opposite_of (split_row q.certificate)) (second_part q.certificate) q))) a.1 in
    let c = both (moved first_from (below (adding (split_row q.certificate) (first_part q.certificate) q))) (moved (second_from q.certificate) (below (adding (opposite_of (split_row q.certificate)) (second_part q.certificate) q))) b.1 in
    (a.0, b.0, moved_yes _ _ c.0, moved_yes _ _ c.1)

-- at every point the row or its opposite is met
either_way : {G : Type 0} (row : Numbers) (point : List ℤ) → (Meets point row → G) → (Meets point (opposite_of row) → G) → G
either_way row point f g =
    by_lt_z row.bound (dot row.coefficients point)
    (λ l. g ((opposite_turns row).one point (λ m. absurd (omega (arith, ints)))))
    (λ l. f l)

-- a fault of the method below in the first part
first_place : (below : Meaning) → Lawful below → (q : Question) (facts : List Numbers) (f : Fault) → second_from q.certificate ≤ length q.certificate →
    moved first_from (below (question facts q.goal (first_part q.certificate) q.rows)) ≡ Err f → f.place ≤ length q.certificate
first_place below l q facts f h e =
    let p = moved_place first_from (length (first_part q.certificate)) _ f e (λ g x. l.placed (question facts q.goal (first_part q.certificate) q.rows) g x) in
    omega (arith, length-take (first_length q.certificate) (drop first_from q.certificate), length-drop first_from q.certificate)

split_own_laws : (below : Meaning) → Lawful below → OwnLaws (split_own below)
unfolding split_own
split_own_laws below l =
    record {
      sound = λ q b e point m.
          let y = split_own_yes below q e in
          either_way (split_row q.certificate) point
          (λ s. l.sound (adding (split_row q.certificate) (first_part q.certificate) q) y.2 point (All-push (Meets point) q.facts (split_row q.certificate) m s))
          (λ s. l.sound (adding (opposite_of (split_row q.certificate)) (second_part q.certificate) q) y.3 point (All-push (Meets point) q.facts (opposite_of (split_row q.certificate)) m s));
      placed = λ q f s e.
          either (room_says q) (split_tests q.certificate and_then moved first_from (below (adding (split_row q.certificate) (first_part q.certificate) q)) and_then moved (second_from q.certificate) (below (adding (opposite_of (split_row q.certificate)) (second_part q.certificate) q))) f e
          (λ r. let p = check_place _ NoRoomForFact 0 f r in omega arith)
          (λ r. passed_or q f (split_tests q.certificate) refl r);
    }
  where
    halves : (q : Question) (f : Fault) → second_from q.certificate ≤ length q.certificate → (moved first_from (below (adding (split_row q.certificate) (first_part q.certificate) q)) and_then moved (second_from q.certificate) (below (adding (opposite_of (split_row q.certificate)) (second_part q.certificate) q))) ≡ Err f → f.place ≤ length q.certificate
    halves q f w h =
        either (moved first_from (below (adding (split_row q.certificate) (first_part q.certificate) q))) (moved (second_from q.certificate) (below (adding (opposite_of (split_row q.certificate)) (second_part q.certificate) q))) f h
        (λ x. first_place below l q (q.facts ++ split_row q.certificate ∷ []) f w x)
        (λ x. lower_place below l q (q.facts ++ opposite_of (split_row q.certificate) ∷ []) (second_from q.certificate) f w x)

    passed_or : (q : Question) (f : Fault) (t : Said) → split_tests q.certificate ≡ t → (t and_then moved first_from (below (adding (split_row q.certificate) (first_part q.certificate) q)) and_then moved (second_from q.certificate) (below (adding (opposite_of (split_row q.certificate)) (second_part q.certificate) q))) ≡ Err f → f.place ≤ length q.certificate
    passed_or q f (Ok tt) t h = halves q f (split_passed q.certificate t).long h
    passed_or q f (Err g) t h = tests_placed q.certificate f (t ∙ h)

pub split_lawful : (below : Meaning) → Lawful below → Lawful (split_says below)
split_lawful below l = layer_lawful split_own below l (split_own_laws below l)
