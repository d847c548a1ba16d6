-- Proofs, and nothing to believe: the laws of the layer that lowers the goal's bound, over any lawful method. They stand
-- here since the layer's contract hands them on, and a contract may name no file of proofs/.
use Rattle.std.specs.Prelude.{◌≡◌, ℕ, ◌≤◌, true, false, List, length, drop, ℤ, pos, ◌-ℤ◌, ◌≤ℤ◌, Ok, Err, int_le, nat_le, refl}
use Rattle.std.proofs.Common.{sym, ap, inl, inr, arith}
use Rattle.std.proofs.lemmas.List.{length-drop}
use Rattle.std.proofs.lemmas.Int.{ints}
use Rattle.std.proofs.lemmas.Bool.{and_parts, leb-true}
use Rattle.rows.specs.declared.fault.Fault.{Fault}
use Rattle.rows.specs.declared.fault.FaultKind.{FaultKind}
use Rattle.rows.specs.declared.fault.FaultKind.TheVariants.{CertificateLength, LayerByte, LayerRowTooLarge, RowNumberTooLarge}
use Rattle.rows.specs.declared.limits.Limit.TheVariants.{WrittenNumber}
use Rattle.rows.specs.declared.numbers.Numbers.{Numbers}
use Rattle.rows.specs.Faults.{Said, fault_of, ◌and_then◌, check, moved}
use Rattle.rows.specs.Limits.{columns, magnitude_of}
use Rattle.rows.specs.Shapes.{dot, Meets}
use Rattle.rows.proofs.Chains.{never, both, check_true, either, found_place}
use Rattle.methods.specs.LayerLaws.{moved_yes, moved_place, lower_place, by_first-cases}
use Rattle.methods.specs.Layers.{first_byte_of, by_first, from}
use Rattle.methods.specs.OpeningLaws.{row_yes}
use Rattle.methods.specs.Openings.{row_says}
use Rattle.methods.specs.Questions.{Question, Meaning, Lawful}
use Rattle.extension.specs.Orders.{le_from}
use Rattle.extension.specs.Weakens.{slack_from, lower_from, slack, slack_says, lowered, slack_tests, stronger, weaken_own, weaken_says, WeakenYes}

-- what a yes of the tests says
pub slack_yes : (certificate : List ℕ) → slack_tests certificate ≡ Ok tt →
    (lower_from ≤ length certificate) × (pos 0 ≤ℤ slack certificate) × (slack certificate ≤ℤ pos (magnitude_of WrittenNumber))
unfolding slack_tests
slack_yes certificate e =
    let a = both (check (nat_le lower_from (length certificate)) (fault_of CertificateLength 0 0 0)) (slack_says (slack certificate)) e in
    let b = and_parts (int_le (pos 0) (slack certificate)) (int_le (slack certificate) (pos (magnitude_of WrittenNumber))) (check_true _ _ a.1) in
    (leb-true _ _ (check_true _ _ a.0), le_from _ _ b.0, le_from _ _ b.1)

-- the layer says yes by handing down or by its own part
pub weaken_only : (below : Meaning) (q : Question) → weaken_says below q ≡ Ok tt → WeakenYes below q
unfolding weaken_says weaken_own
weaken_only below q e =
    let a = both (row_says q.goal) (by_first (first_byte_of q.certificate) (moved 1 (below (from 1 q))) (weaken_own below q)) e in
    record {
      goal_is_row = row_yes q.goal a.0;
      by = by_first-cases q.certificate (moved 1 (below (from 1 q))) (weaken_own below q) (Ok tt) a.1
          (λ x. never _ x)
          (λ s t x. inl (record { first_byte = (s, t); below_yes = moved_yes 1 _ x }))
          (λ s t x.
          let b = both (slack_tests q.certificate) (moved lower_from (below (stronger q))) x in
          let c = slack_yes q.certificate b.0 in
          inr (record { first_byte = (s, t); long = c.0; slack_least = c.1; slack_most = c.2; below_yes = moved_yes lower_from _ b.1 }))
          (λ x. never _ x);
    }

less : (sum bound by : ℤ) → pos 0 ≤ℤ by → sum ≤ℤ (bound -ℤ by) → sum ≤ℤ bound
less sum bound by h m = omega (arith, ints)

-- a point that meets the stronger goal meets the goal
met : (goal : Numbers) (certificate : List ℕ) (point : List ℤ) → pos 0 ≤ℤ slack certificate → Meets point (lowered goal certificate) → Meets point goal
met goal certificate point h m = less (dot goal.coefficients point) goal.bound (slack certificate) h m

place_of : (k : FaultKind) (p i : ℕ) (f : Fault) → ◌≡◌ {A = Said} (Err (fault_of k p 0 i)) (Err f) → f.place ≡ p
place_of k p i f e = let s : fault_of k p 0 i ≡ f = cc in sym (ap (λ (x : Fault). x.place) s)

-- a fault of the own part stands within the certificate
own_placed : (below : Meaning) → Lawful below → (q : Question) (f : Fault) → weaken_own below q ≡ Err f → f.place ≤ length q.certificate
unfolding weaken_own slack_tests
own_placed below l q f e = from_tests (nat_le lower_from (length q.certificate)) refl e
  where
    in_range_lem : lower_from ≤ length q.certificate → (b : _) → (check b (fault_of LayerRowTooLarge slack_from 0 columns) and_then moved lower_from (below (stronger q))) ≡ Err f → f.place ≤ length q.certificate
    in_range_lem h true x =
        let p = moved_place lower_from (length (drop lower_from q.certificate)) _ f x (λ g y. l.placed (stronger q) g y) in
        omega (arith, length-drop lower_from q.certificate)
    in_range_lem h false x = let p = place_of LayerRowTooLarge slack_from columns f x in omega arith

    from_tests : (b : _) → nat_le lower_from (length q.certificate) ≡ b → ((check b (fault_of CertificateLength 0 0 0) and_then slack_says (slack q.certificate)) and_then moved lower_from (below (stronger q))) ≡ Err f → f.place ≤ length q.certificate
    from_tests true h x = in_range_lem (leb-true _ _ h) _ x
    from_tests false h x = let p = place_of CertificateLength 0 0 f x in omega arith

pub weaken_lawful : (below : Meaning) → Lawful below → Lawful (weaken_says below)
unfolding weaken_says
weaken_lawful below l =
    record {
      sound = λ q e point m.
          elim (weaken_only below q e).by [
            | inl h ↦ l.sound (from 1 q) h.below_yes point m
            | inr o ↦ met q.goal q.certificate point o.slack_least (l.sound (stronger q) o.below_yes point m)
          ];
      placed = λ q f e.
          either (row_says q.goal) (by_first (first_byte_of q.certificate) (moved 1 (below (from 1 q))) (weaken_own below q)) f e
          (λ a. let p = found_place RowNumberTooLarge _ f a in omega arith)
          (λ a. by_first-cases q.certificate (moved 1 (below (from 1 q))) (weaken_own below q) (Err f) a
          (λ x. let p = place_of CertificateLength 0 0 f x in omega arith)
          (λ s t x. lower_place below l q q.facts 1 f s x)
          (λ s t x. own_placed below l q f x)
          (λ x. let p = place_of LayerByte 0 0 f x in omega arith));
    }
