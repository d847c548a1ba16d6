-- The multiplier method says yes exactly when all its conditions hold.
use Rattle.std.proofs.Common.{◌≡◌, ℕ, true, not, List, ℤ, ◌≤ℤ◌, Ok, sym, ap, arith}
use lib.Signed.{le_z}
use Rattle.std.proofs.lemmas.Int.{ints}
use Rattle.std.proofs.lemmas.Bool.{eq-eqb}
use Rattle.rows.specs.declared.fault.FaultKind.TheVariants.{ColumnDiffers}
use Rattle.rows.specs.declared.numbers.Numbers.{Numbers}
use Rattle.rows.specs.Faults.{Said, unless_found}
use Rattle.rows.specs.Limits.{columns}
use Rattle.rows.proofs.Chains.{goes, checked}
use Rattle.rows.proofs.Equalities.{int_eq_test-decides}
use Rattle.rows.proofs.First.{none_first}
use Rattle.methods.specs.OpeningLaws.{opened_yes, yes_opened}
use Rattle.methods.specs.Questions.{Question, asked, YesExactly}
use Rattle.methods.specs.Sums.{weights_from, differs, sums_say, multipliers_say, MultipliersYes}
use Rattle.methods.specs.SumsLaws.{passed}
use Rattle.methods.proofs.Asked.{exactly}
use Rattle.methods.proofs.WeightTests.{range_yes, yes_range, weights_yes, yes_weights}

le_test : (a b : ℤ) → a ≤ℤ b → le_z a b ≡ true
le_test a b h = grind (arith, ints)

pub multipliers_only : (q : Question) → multipliers_say q ≡ Ok tt → MultipliersYes q
multipliers_only q e =
    let o = opened_yes (λ q. sums_say q.facts q.goal q.certificate) q e in
    let p = passed q.facts q.goal q.certificate o.1 in
    let g = range_yes 1 q.certificate 0 p.goal_range in
    record {
      begun = o.0;
      whole = p.whole;
      goal_weight_least = g.0;
      goal_weight_most = g.1;
      weights = weights_yes q.certificate weights_from q.facts p.weights;
      columns_agree = p.columns_agree;
      bound_shown = p.bound_shown;
    }

pub multipliers_if : (q : Question) → MultipliersYes q → multipliers_say q ≡ Ok tt
unfolding sums_say
multipliers_if q y =
    yes_opened (λ q. sums_say q.facts q.goal q.certificate) q y.begun
    (sym (goes _ _ _ (checked _ _ (eq-eqb _ _ y.whole))
    (goes _ _ _ (yes_range 1 q.certificate 0 y.goal_weight_least y.goal_weight_most)
    (goes _ _ _ (yes_weights q.certificate weights_from q.facts y.weights)
    (goes _ _ _ (sym (ap (unless_found ColumnDiffers) (none_first (differs q.facts q.goal q.certificate) columns (λ k l. ap not ((int_eq_test-decides _ _).1 (y.columns_agree k l))))))
    (checked _ _ (le_test _ _ y.bound_shown)))))))

pub multipliers_exactly : (count : ℕ) (sheet : List Numbers) (goal : Numbers) (certificate : List ℕ) (said : Said) → said ≡ asked multipliers_say count sheet goal certificate → YesExactly said MultipliersYes count sheet goal certificate
multipliers_exactly count sheet goal certificate said e = exactly count sheet goal certificate multipliers_say MultipliersYes said e multipliers_only multipliers_if
