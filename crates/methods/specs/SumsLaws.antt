-- Proofs, and nothing to believe: the laws of the multiplier method. They stand here since the method's contract hands
-- them on, and a contract may name no file of proofs/.
use Rattle.std.specs.Prelude.{◌≡◌, ℕ, ◌+◌, ◌*◌, ◌<◌, ◌≤◌, Bool, true, false, ◌&&◌, List, [], ◌∷◌, length, ℤ, pos, ◌*ℤ◌, ◌≤ℤ◌, Ok, Err, ◌==◌, int_le, nat_le}
use Rattle.std.proofs.Common.{sym, ap, subst, ◌∙◌, arith}
use Rattle.std.proofs.lemmas.Int.{ints}
use Rattle.std.proofs.lemmas.Bool.{and_parts, leb-true, eqb-true, not-false}
use Rattle.rows.specs.declared.fault.Fault.{Fault}
use Rattle.rows.specs.declared.fault.FaultKind.TheVariants.{MultiplierRange, CertificateLength, ColumnDiffers, BoundNotShown}
use Rattle.rows.specs.declared.numbers.Numbers.{Numbers}
use Rattle.rows.specs.Faults.{fault_of, ◌and_then◌, check}
use Rattle.rows.specs.Limits.{columns}
use Rattle.rows.specs.Shapes.{dot_to, dot, Meets, MeetsAll}
use Rattle.rows.proofs.Chains.{both, check_true, found_none, either, never, check_first, check_place, found_place}
use Rattle.rows.proofs.Equalities.{int_eq_test-decides}
use Rattle.rows.proofs.First.{first_none}
use Rattle.rows.proofs.Items.{item_column, item_bound}
use Rattle.rows.proofs.Ring.{times_cancel}
use Rattle.methods.specs.OpeningLaws.{opened_yes, opened_place}
use Rattle.methods.specs.Questions.{Lawful}
use Rattle.methods.specs.Sums.{weights_from, scaled, differs, columns_say, bound_says, sums_say, multipliers_say}
use Rattle.methods.specs.WeightedLaws.{sum_met, sum_scaled}
use Rattle.rows.specs.Bytes.{word_at}
use Rattle.methods.specs.Weights.{most_weight, range_says, weights_say, weighted}

-- what a yes of the tests behind the opening ones says of each of them
pub record Passed (facts : List Numbers) (goal : Numbers) (certificate : List ℕ) : Type 0 where
  pub whole : length certificate ≡ weights_from + 2 * length facts
  pub goal_range : range_says 1 certificate 0 ≡ Ok tt
  pub weights : weights_say certificate weights_from facts ≡ Ok tt
  pub columns_agree : (k : ℕ) → k < columns → weighted k certificate weights_from facts ≡ scaled goal certificate k
  pub bound_shown : weighted columns certificate weights_from facts ≤ℤ scaled goal certificate columns

le_from : (a b : ℤ) → int_le a b ≡ true → a ≤ℤ b
le_from a b e = omega (arith, ints)

pub passed : (facts : List Numbers) (goal : Numbers) (certificate : List ℕ) → sums_say facts goal certificate ≡ Ok tt → Passed facts goal certificate
unfolding sums_say
passed facts goal certificate e =
    let a = both (check (length certificate == weights_from + 2 * length facts) (fault_of CertificateLength 0 0 0)) (range_says 1 certificate 0 and_then weights_say certificate weights_from facts and_then columns_say facts goal certificate and_then bound_says facts goal certificate) e in
    let b = both (range_says 1 certificate 0) (weights_say certificate weights_from facts and_then columns_say facts goal certificate and_then bound_says facts goal certificate) a.1 in
    let c = both (weights_say certificate weights_from facts) (columns_say facts goal certificate and_then bound_says facts goal certificate) b.1 in
    let d = both (columns_say facts goal certificate) (bound_says facts goal certificate) c.1 in
    record {
      whole = eqb-true _ _ (check_true _ _ a.0);
      goal_range = b.0;
      weights = c.0;
      columns_agree = λ k l. (int_eq_test-decides _ _).0 (not-false _ (first_none (differs facts goal certificate) columns (found_none ColumnDiffers _ d.0) k l));
      bound_shown = le_from _ _ (check_true _ _ d.1);
    }

le_trans : (a b c : ℤ) → a ≤ℤ b → b ≤ℤ c → a ≤ℤ c
le_trans a b c h k = omega (arith, ints)

pub range_least : (bytes : List ℕ) (at : ℕ) → range_says 1 bytes at ≡ Ok tt → 0 < word_at bytes at
range_least bytes at e =
    let p = and_parts (nat_le 1 (word_at bytes at)) (nat_le (word_at bytes at) most_weight) (check_true _ _ e) in
    leb-true 1 (word_at bytes at) p.0

sums_sound : (facts : List Numbers) (goal : Numbers) (certificate : List ℕ) → Passed facts goal certificate → (point : List ℤ) → MeetsAll point facts → Meets point goal
unfolding dot
sums_sound facts goal certificate y point m =
    let g = word_at certificate 0 in
    let s = sum_scaled columns g certificate weights_from facts goal.coefficients point
    (λ k h. y.columns_agree k h ∙ ap (λ (z : ℤ). pos g *ℤ z) (item_column goal k h)) in
    let d = sum_met columns (omega arith) certificate weights_from facts point m in
    let e = subst (λ (z : ℤ). z ≤ℤ weighted columns certificate weights_from facts) s d in
    let b = subst (λ (z : ℤ). weighted columns certificate weights_from facts ≤ℤ (pos g *ℤ z)) (item_bound goal columns (omega arith)) y.bound_shown in
    times_cancel g (dot_to columns goal.coefficients point) goal.bound (range_least certificate 0 y.goal_range) (le_trans _ _ _ e b)

-- where the faults stand
pub range_place : (least : ℕ) (bytes : List ℕ) (at : ℕ) (f : Fault) → range_says least bytes at ≡ Err f → f.place ≡ at
range_place least bytes at f e = checked_at (nat_le least (word_at bytes at) && nat_le (word_at bytes at) most_weight) e
  where
    checked_at : (test : Bool) → check test (fault_of MultiplierRange at 0 0) ≡ Err f → f.place ≡ at
    checked_at true h = never f (sym h)
    checked_at false h = let s : fault_of MultiplierRange at 0 0 ≡ f = cc in sym (ap (λ (x : Fault). x.place) s)

pub weights_place : (bytes : List ℕ) (at : ℕ) (facts : List Numbers) (f : Fault) → weights_say bytes at facts ≡ Err f → f.place < at + 2 * length facts
weights_place bytes at [] f e = never f (sym e)
weights_place bytes at (x ∷ xs) f e =
    either (range_says 0 bytes at) (weights_say bytes (at + 2) xs) f e
    (λ h. let p = range_place 0 bytes at f h in omega arith)
    (λ h. let p = weights_place bytes (at + 2) xs f h in omega arith)

sums_placed : (facts : List Numbers) (goal : Numbers) (certificate : List ℕ) (f : Fault) → sums_say facts goal certificate ≡ Err f → f.place ≤ length certificate
unfolding sums_say
sums_placed facts goal certificate f e =
    check_first (length certificate == weights_from + 2 * length facts) CertificateLength 0 (range_says 1 certificate 0 and_then weights_say certificate weights_from facts and_then columns_say facts goal certificate and_then bound_says facts goal certificate) f e
    (λ z. omega arith)
    (λ t h. let w = eqb-true (length certificate) (weights_from + 2 * length facts) t in
    either (range_says 1 certificate 0) (weights_say certificate weights_from facts and_then columns_say facts goal certificate and_then bound_says facts goal certificate) f h
    (λ a. let p = range_place 1 certificate 0 f a in omega arith)
    (λ a. either (weights_say certificate weights_from facts) (columns_say facts goal certificate and_then bound_says facts goal certificate) f a
    (λ b. let p = weights_place certificate weights_from facts f b in omega arith)
    (λ b. either (columns_say facts goal certificate) (bound_says facts goal certificate) f b
    (λ c. let p = found_place ColumnDiffers _ f c in omega arith)
    (λ c. let p = check_place _ BoundNotShown columns f c in omega arith))))

pub multipliers_lawful : Lawful multipliers_say
multipliers_lawful =
    record {
      sound = λ q e. sums_sound q.facts q.goal q.certificate (passed q.facts q.goal q.certificate (opened_yes (λ q. sums_say q.facts q.goal q.certificate) q e).1);
      placed = λ q f e. opened_place (λ q. sums_say q.facts q.goal q.certificate) q f e (λ z. omega arith) (sums_placed q.facts q.goal q.certificate f);
    }
