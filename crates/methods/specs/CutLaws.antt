-- Proofs, and nothing to believe: the laws of the cut over any lawful method. They stand here since the layer's contract
-- hands them on, and a contract may name no file of proofs/.
use Rattle.std.specs.Prelude.{◌≡◌, ℕ, zero, suc, ◌+◌, ◌*◌, ◌/◌, ◌<◌, ◌≤◌, List, [], ◌∷◌, length, drop, ℤ, pos, negsuc, ◌+ℤ◌, ◌*ℤ◌, ◌≤ℤ◌, ◌<ℤ◌, Ok, Err, nat_le, slice_index_or, refl}
use Rattle.std.proofs.Math.Nat.{mul-div-le, lt-mul-div-succ}
use Rattle.std.proofs.Common.{sym, ap, subst, ◌∙◌, inl, inr, arith}
use Rattle.std.proofs.ByRecursion.{All-push}
use Rattle.std.proofs.lemmas.List.{length_push, get_or_append_left, get_or_push}
use Rattle.std.proofs.lemmas.Int.{ints, by_lt_z}
use Rattle.std.proofs.lemmas.Bool.{cases_eq, leb-true, not-false}
use Rattle.rows.specs.declared.fault.Fault.{Fault}
use Rattle.rows.specs.declared.fault.FaultKind.TheVariants.{CertificateLength, ColumnDiffers, LayerRowTooLarge, NoRoomForFact}
use Rattle.rows.specs.declared.limits.Limit.TheVariants.{RowNumber}
use Rattle.rows.specs.declared.numbers.Numbers.{Numbers}
use Rattle.rows.specs.Faults.{Said, fault_of, ◌and_then◌, check, unless_found, moved}
use Rattle.rows.specs.Limits.{columns, items, magnitude_of}
use Rattle.rows.specs.Shapes.{Within, beyond, first_beyond, dot_to, dot, Meets, MeetsAll}
use Rattle.rows.proofs.Chains.{both, check_true, found_none, either, check_first, check_place, found_place}
use Rattle.rows.proofs.Equalities.{int_eq_test-decides}
use Rattle.rows.proofs.First.{first_none}
use Rattle.rows.proofs.Ring.{times_le}
use Rattle.methods.specs.Cuts.{floor_div, tabulate, divisor_from, cut_weights_from, cut_end, divisor, divided, indivisible, divides_say, cut_row, cut_tests, cut_own, cut_says, IsCut}
use Rattle.methods.specs.LayerLaws.{moved_yes, lower_place, OwnLaws, layer_lawful}
use Rattle.methods.specs.Layers.{adding, room_says}
use Rattle.methods.specs.Questions.{Question, Meaning, Lawful}
use Rattle.methods.specs.SumsLaws.{range_place, weights_place, range_least}
use Rattle.methods.specs.WeightedLaws.{sum_met, sum_scaled}
use Rattle.methods.specs.Weights.{range_says, weights_say, weighted}

-- the quotient rounded down
pub floor_below : (z : ℤ) (d : ℕ) → 0 < d → (pos d *ℤ floor_div z d) ≤ℤ z
floor_below (pos n) d l = let h = mul-div-le n d in omega (arith, ints, h)
floor_below (negsuc n) d l =
    let h = lt-mul-div-succ n l in
    let m : d * suc (n / d) ≡ d * (n / d + 1) = ap (λ (k : ℕ). d * k) (omega arith) in
    omega (arith, ints, h, m)

pub floor_above : (z : ℤ) (d : ℕ) → 0 < d → z <ℤ (pos d *ℤ (floor_div z d +ℤ pos 1))
floor_above (pos n) d l = let h = lt-mul-div-succ n l in omega (arith, ints, h)
floor_above (negsuc n) d l = above (n / d) (mul-div-le n d)
  where
    above : (q : ℕ) → d * q ≤ n → negsuc n <ℤ (pos d *ℤ (negsuc q +ℤ pos 1))
    above zero h = omega (arith, ints)
    above (suc k) h =
        let e : negsuc (suc k) +ℤ pos 1 ≡ negsuc k = omega (arith, ints) in
        subst (λ (z : ℤ). negsuc n <ℤ (pos d *ℤ z)) (sym e) (omega (arith, ints, h))

-- the elements of a tabulated list
pub tabulate_length : {X : Type 0} (f : ℕ → X) (n : ℕ) → length (tabulate f n) ≡ n
tabulate_length f zero = refl
tabulate_length f (suc n) = length_push (tabulate f n) (f n) ∙ (let h = tabulate_length f n in omega arith)

pub tabulate-get_or : {X : Type 0} (f : ℕ → X) (n k : ℕ) (d : X) → k < n → slice_index_or (tabulate f n) k d ≡ f k
tabulate-get_or f zero k d l = absurd (omega arith)
tabulate-get_or f (suc n) k d l =
    let h = tabulate_length f n in
    elim (cases_eq k n) [
      | inl s ↦ get_or_push (tabulate f n) (f n) d k (h ∙ sym s) ∙ ap f (sym s)
      | inr s ↦ get_or_append_left (tabulate f n) (f n ∷ []) d k (omega arith) ∙ tabulate-get_or f n k d (omega arith)
    ]

-- what a yes of the tests says
pub record CutPassed (facts : List Numbers) (certificate : List ℕ) : Type 0 where
  pub long : cut_end facts ≤ length certificate
  pub divisor_range : range_says 1 certificate divisor_from ≡ Ok tt
  pub weights : weights_say certificate cut_weights_from facts ≡ Ok tt
  pub is_cut : IsCut facts certificate (cut_row facts certificate)
  pub is_row : Within (magnitude_of RowNumber) (cut_row facts certificate)

pub row_is_cut : (facts : List Numbers) (certificate : List ℕ) → 0 < divisor certificate →
    ((k : ℕ) → k < columns → pos (divisor certificate) *ℤ divided facts certificate k ≡ weighted k certificate cut_weights_from facts) → IsCut facts certificate (cut_row facts certificate)
row_is_cut facts certificate l h =
    record {
      as_long = tabulate_length (divided facts certificate) columns;
      columns_divided = λ k m. sym (h k m) ∙ ap (λ (z : ℤ). pos (divisor certificate) *ℤ z) (sym (tabulate-get_or (divided facts certificate) columns k (pos 0) m));
      bound_below = floor_below _ _ l;
      bound_above = floor_above _ _ l;
    }

pub cut_passed : (facts : List Numbers) (certificate : List ℕ) → cut_tests facts certificate ≡ Ok tt → CutPassed facts certificate
unfolding cut_tests first_beyond
cut_passed facts certificate e =
    let a = both (check (nat_le (cut_end facts) (length certificate)) (fault_of CertificateLength 0 0 0)) (range_says 1 certificate divisor_from and_then weights_say certificate cut_weights_from facts and_then divides_say facts certificate and_then unless_found LayerRowTooLarge (first_beyond (magnitude_of RowNumber) (cut_row facts certificate))) e in
    let b = both (range_says 1 certificate divisor_from) (weights_say certificate cut_weights_from facts and_then divides_say facts certificate and_then unless_found LayerRowTooLarge (first_beyond (magnitude_of RowNumber) (cut_row facts certificate))) a.1 in
    let c = both (weights_say certificate cut_weights_from facts) (divides_say facts certificate and_then unless_found LayerRowTooLarge (first_beyond (magnitude_of RowNumber) (cut_row facts certificate))) b.1 in
    let d = both (divides_say facts certificate) (unless_found LayerRowTooLarge (first_beyond (magnitude_of RowNumber) (cut_row facts certificate))) c.1 in
    record {
      long = leb-true _ _ (check_true _ _ a.0);
      divisor_range = b.0;
      weights = c.0;
      is_cut = row_is_cut facts certificate (range_least certificate divisor_from b.0)
          (λ k l. (int_eq_test-decides _ _).0 (not-false _ (first_none (indivisible facts certificate) columns (found_none ColumnDiffers _ d.0) k l)));
      is_row = λ k l. not-false _ (first_none (beyond (magnitude_of RowNumber) (cut_row facts certificate)) items (found_none LayerRowTooLarge _ d.1) k l);
    }

-- a point that meets all facts meets the row
pub rounded : (d : ℕ) (s b w : ℤ) → (pos d *ℤ s) ≤ℤ w → w <ℤ (pos d *ℤ (b +ℤ pos 1)) → s ≤ℤ b
rounded d s b w h k =
    by_lt_z s (b +ℤ pos 1) (λ l. omega (arith, ints))
    (λ l. let t = times_le d (b +ℤ pos 1) s l in absurd (omega (arith, ints, t)))

pub cut_met : (facts : List Numbers) (certificate : List ℕ) (row : Numbers) → IsCut facts certificate row → (point : List ℤ) → MeetsAll point facts → Meets point row
unfolding dot
cut_met facts certificate row c point m =
    let s = sum_scaled columns (divisor certificate) certificate cut_weights_from facts row.coefficients point c.columns_divided in
    let d = sum_met columns (omega arith) certificate cut_weights_from facts point m in
    rounded (divisor certificate) (dot_to columns row.coefficients point) row.bound _
    (subst (λ (z : ℤ). z ≤ℤ weighted columns certificate cut_weights_from facts) s d) c.bound_above

tests_placed : (facts : List Numbers) (certificate : List ℕ) (f : Fault) → cut_tests facts certificate ≡ Err f → f.place ≤ length certificate
unfolding cut_tests
tests_placed facts certificate f e =
    check_first (nat_le (cut_end facts) (length certificate)) CertificateLength 0 (range_says 1 certificate divisor_from and_then weights_say certificate cut_weights_from facts and_then divides_say facts certificate and_then unless_found LayerRowTooLarge (first_beyond (magnitude_of RowNumber) (cut_row facts certificate))) f e
    (λ z. omega arith)
    (λ t h. let w = leb-true (cut_end facts) (length certificate) t in
    either (range_says 1 certificate divisor_from) (weights_say certificate cut_weights_from facts and_then divides_say facts certificate and_then unless_found LayerRowTooLarge (first_beyond (magnitude_of RowNumber) (cut_row facts certificate))) f h
    (λ a. let p = range_place 1 certificate divisor_from f a in omega arith)
    (λ a. either (weights_say certificate cut_weights_from facts) (divides_say facts certificate and_then unless_found LayerRowTooLarge (first_beyond (magnitude_of RowNumber) (cut_row facts certificate))) f a
    (λ b. let p = weights_place certificate cut_weights_from facts f b in omega arith)
    (λ b. either (divides_say facts certificate) (unless_found LayerRowTooLarge (first_beyond (magnitude_of RowNumber) (cut_row facts certificate))) f b
    (λ c. let p = found_place ColumnDiffers _ f c in omega arith)
    (λ c. let p = found_place LayerRowTooLarge _ f c in omega arith))))

-- the parts of a yes of the own part
pub cut_own_yes : (below : Meaning) (q : Question) → cut_own below q ≡ Ok tt →
    (room_says q ≡ Ok tt) × (cut_tests q.facts q.certificate ≡ Ok tt) × (below (adding (cut_row q.facts q.certificate) (drop (cut_end q.facts) q.certificate) q) ≡ Ok tt)
unfolding cut_own
cut_own_yes below q e =
    let a = both (room_says q) (cut_tests q.facts q.certificate and_then moved (cut_end q.facts) (below (adding (cut_row q.facts q.certificate) (drop (cut_end q.facts) q.certificate) q))) e in
    let b = both (cut_tests q.facts q.certificate) (moved (cut_end q.facts) (below (adding (cut_row q.facts q.certificate) (drop (cut_end q.facts) q.certificate) q))) a.1 in
    (a.0, b.0, moved_yes _ _ b.1)

cut_own_laws : (below : Meaning) → Lawful below → OwnLaws (cut_own below)
unfolding cut_own
cut_own_laws below l =
    record {
      sound = λ q b e point m.
          let y = cut_own_yes below q e in
          let p = cut_passed q.facts q.certificate y.1 in
          l.sound (adding (cut_row q.facts q.certificate) (drop (cut_end q.facts) q.certificate) q) y.2 point
          (All-push (Meets point) q.facts (cut_row q.facts q.certificate) m (cut_met q.facts q.certificate _ p.is_cut point m));
      placed = λ q f s e.
          either (room_says q) (cut_tests q.facts q.certificate and_then moved (cut_end q.facts) (below (adding (cut_row q.facts q.certificate) (drop (cut_end q.facts) q.certificate) q))) f e
          (λ r. let p = check_place _ NoRoomForFact 0 f r in omega arith)
          (λ r. passed_or q f (cut_tests q.facts q.certificate) refl r);
    }
  where
    passed_or : (q : Question) (f : Fault) (t : Said) → cut_tests q.facts q.certificate ≡ t → (t and_then moved (cut_end q.facts) (below (adding (cut_row q.facts q.certificate) (drop (cut_end q.facts) q.certificate) q))) ≡ Err f → f.place ≤ length q.certificate
    passed_or q f (Ok tt) t h = lower_place below l q _ (cut_end q.facts) f (cut_passed q.facts q.certificate t).long h
    passed_or q f (Err g) t h = tests_placed q.facts q.certificate f (t ∙ h)

pub cut_lawful : (below : Meaning) → Lawful below → Lawful (cut_says below)
cut_lawful below l = layer_lawful cut_own below l (cut_own_laws below l)
