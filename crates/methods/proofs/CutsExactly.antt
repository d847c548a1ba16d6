-- The cut says yes exactly when all its conditions hold; the row that it adds is the only one that they allow.
use Rattle.std.proofs.Common.{◌≡◌, ℕ, ◌<◌, not, List, get_or, drop, ℤ, pos, ◌+ℤ◌, ◌*ℤ◌, ◌≤ℤ◌, ◌<ℤ◌, Ok, sym, ap, ◌∙◌, subst, inl, inr, arith}
use Rattle.std.proofs.lemmas.List.{ext_get_or}
use Rattle.std.proofs.lemmas.Int.{ints}
use Rattle.std.proofs.lemmas.Bool.{le-leb}
use Rattle.rows.specs.declared.fault.FaultKind.TheVariants.{ColumnDiffers, LayerRowTooLarge}
use Rattle.rows.specs.declared.limits.Limit.TheVariants.{RowNumber}
use Rattle.rows.specs.declared.numbers.Numbers.{Numbers}
use Rattle.rows.specs.Faults.{Said, unless_found, moved}
use Rattle.rows.specs.Limits.{columns, items, magnitude_of}
use Rattle.rows.specs.Shapes.{Within, beyond, first_beyond}
use Rattle.rows.proofs.Chains.{goes, checked}
use Rattle.rows.proofs.Equalities.{int_eq_test-decides}
use Rattle.rows.proofs.First.{none_first}
use Rattle.rows.proofs.Items.{same_numbers}
use Rattle.rows.proofs.Ring.{*ℤ-+ℤ}
use Rattle.methods.specs.CutLaws.{floor_below, floor_above, rounded, tabulate_length, tabulate-get_or, cut_passed, cut_own_yes}
use Rattle.methods.specs.Cuts.{floor_div, divisor_from, cut_weights_from, cut_end, divisor, divided, indivisible, cut_row, cut_tests, cut_own, cut_says, IsCut, CutOwnYes, CutYes}
use Rattle.methods.specs.LayerLaws.{room_yes}
use Rattle.methods.specs.Layers.{adding}
use Rattle.methods.specs.Questions.{Question, Meaning, asked, YesExactly}
use Rattle.methods.specs.Weights.{weighted}
use Rattle.methods.proofs.Asked.{exactly}
use Rattle.methods.proofs.LayerAnswers.{layer_only, handed_if, own_if, yes_room}
use Rattle.methods.proofs.WeightTests.{range_yes, yes_range, weights_yes, yes_weights}

antisym : (a b : ℤ) → a ≤ℤ b → b ≤ℤ a → a ≡ b
antisym a b h k = omega (arith, ints)

-- the quotient rounded down is the only number with its two bounds
floor_only : (d : ℕ) (s b : ℤ) → 0 < d → (pos d *ℤ b) ≤ℤ s → s <ℤ (pos d *ℤ (b +ℤ pos 1)) → b ≡ floor_div s d
floor_only d s b l h k = antisym b (floor_div s d) (rounded d b (floor_div s d) s h (floor_above s d l)) (rounded d (floor_div s d) b s (floor_below s d l) k)

-- and so an exact quotient is it
exact : (d : ℕ) (s c : ℤ) → 0 < d → s ≡ pos d *ℤ c → c ≡ floor_div s d
exact d s c l e =
    let m = *ℤ-+ℤ (pos d) c (pos 1) in
    floor_only d s c l (omega (arith, ints, e)) (omega (arith, ints, e, m))

pub cut_unique : (facts : List Numbers) (certificate : List ℕ) (row : Numbers) → 0 < divisor certificate → IsCut facts certificate row → row ≡ cut_row facts certificate
cut_unique facts certificate row l c =
    same_numbers _ _ _ _
    (ext_get_or (pos 0) row.coefficients (cut_row facts certificate).coefficients (c.as_long ∙ sym (tabulate_length (divided facts certificate) columns))
    (λ k h. let m : k < columns = omega (arith, c.as_long) in
    exact (divisor certificate) _ _ l (c.columns_divided k m) ∙ sym (tabulate-get_or (divided facts certificate) columns k (pos 0) m)))
    (floor_only (divisor certificate) _ _ l c.bound_below c.bound_above)

pub cut_only : (below : Meaning) (q : Question) → cut_says below q ≡ Ok tt → CutYes below q
cut_only below q e =
    let y = layer_only cut_own below q e in
    record {
      begun = y.0;
      by = elim y.1 [
        | inl h ↦ inl h
        | inr o ↦
            let p = cut_own_yes below q o.2 in
            let c = cut_passed q.facts q.certificate p.1 in
            let d = range_yes 1 q.certificate divisor_from c.divisor_range in
            inr (
              cut_row q.facts q.certificate,
              record {
                first_byte = (o.0, o.1);
                room = room_yes q p.0;
                long = c.long;
                divisor_least = d.0;
                divisor_most = d.1;
                weights = weights_yes q.certificate cut_weights_from q.facts c.weights;
                is_cut = c.is_cut;
                is_row = c.is_row;
                below_yes = p.2;
              },
            )
      ];
    }

own_yes : (below : Meaning) (q : Question) (row : Numbers) → CutOwnYes below q row → cut_own below q ≡ Ok tt
unfolding cut_own cut_tests first_beyond
own_yes below q row y =
    let u = cut_unique q.facts q.certificate row y.divisor_least y.is_cut in
    let held = subst (Within (magnitude_of RowNumber)) u y.is_row in
    let same : (k : ℕ) → k < columns → pos (divisor q.certificate) *ℤ divided q.facts q.certificate k ≡ weighted k q.certificate cut_weights_from q.facts =
    λ k l. sym (y.is_cut.columns_divided k l ∙ ap (λ (z : ℤ). pos (divisor q.certificate) *ℤ z) (ap (λ (r : Numbers). get_or r.coefficients k (pos 0)) u ∙ tabulate-get_or (divided q.facts q.certificate) columns k (pos 0) l)) in
    let b = subst (λ (r : Numbers). below (adding r (drop (cut_end q.facts) q.certificate) q) ≡ Ok tt) u y.below_yes in
    sym (goes _ _ _ (yes_room q y.room.0 y.room.1)
    (goes _ _ _
    (goes _ _ _ (checked _ _ (le-leb _ _ y.long))
    (goes _ _ _ (yes_range 1 q.certificate divisor_from y.divisor_least y.divisor_most)
    (goes _ _ _ (yes_weights q.certificate cut_weights_from q.facts y.weights)
    (goes _ _ _ (sym (ap (unless_found ColumnDiffers) (none_first (indivisible q.facts q.certificate) columns (λ k l. ap not ((int_eq_test-decides _ _).1 (same k l))))))
    (sym (ap (unless_found LayerRowTooLarge) (none_first (beyond (magnitude_of RowNumber) (cut_row q.facts q.certificate)) items (λ k l. ap not (held k l)))))))))
    (sym (ap (moved (cut_end q.facts)) b))))

pub cut_if : (below : Meaning) (q : Question) → CutYes below q → cut_says below q ≡ Ok tt
cut_if below q y =
    elim y.by [
      | inl h ↦ handed_if cut_own below q y.begun h
      | inr o ↦ own_if cut_own below q y.begun o.1.first_byte.0 o.1.first_byte.1 (own_yes below q o.0 o.1)
    ]

pub cut_exactly : (below : Meaning) (count : ℕ) (sheet : List Numbers) (goal : Numbers) (certificate : List ℕ) (said : Said) → said ≡ asked (cut_says below) count sheet goal certificate → YesExactly said (CutYes below) count sheet goal certificate
cut_exactly below count sheet goal certificate said e = exactly count sheet goal certificate (cut_says below) (CutYes below) said e (cut_only below) (cut_if below)
