-- Proofs, and nothing to believe: the laws of the method for goals that every point meets. They stand here since the
-- method's contract hands them on, and a contract may name no file of proofs/.
use Rattle.std.specs.Prelude.{◌≡◌, ℕ, zero, suc, ◌<◌, ◌≤◌, List, length, ℤ, pos, ◌+ℤ◌, ◌*ℤ◌, ◌≤ℤ◌, Ok, Err, ◌==◌, int_le, slice_index_or, refl}
use Rattle.std.proofs.Common.{sym, ap, subst, ◌∙◌, arith}
use Rattle.std.proofs.lemmas.Int.{ints}
use Rattle.std.proofs.lemmas.Bool.{eqb-true, not-false}
use Rattle.rows.specs.declared.fault.Fault.{Fault}
use Rattle.rows.specs.declared.fault.FaultKind.TheVariants.{CertificateLength, ColumnDiffers, BoundNotShown}
use Rattle.rows.specs.declared.numbers.Numbers.{Numbers}
use Rattle.rows.specs.Faults.{fault_of, ◌and_then◌, check, unless_found}
use Rattle.rows.specs.Firsts.{first_below}
use Rattle.rows.specs.Limits.{columns}
use Rattle.rows.specs.Shapes.{dot_to, dot, Meets}
use Rattle.rows.proofs.Chains.{both, check_true, found_none, either, check_first, check_place, found_place}
use Rattle.rows.proofs.Equalities.{int_eq_test-decides}
use Rattle.rows.proofs.First.{first_none}
use Rattle.methods.specs.Questions.{Question, Lawful}
use Rattle.extension.specs.Orders.{le_from}
use Rattle.extension.specs.ZeroGoals.{uses, zero_goal_tests, zero_goal_says, ZeroGoalYes}

-- what a yes of the tests says
pub zero_goal_only : (q : Question) → zero_goal_says q ≡ Ok tt → ZeroGoalYes q
unfolding zero_goal_tests
zero_goal_only q e =
    let a = both (check (length q.certificate == 0) (fault_of CertificateLength 0 0 0)) (unless_found ColumnDiffers (first_below (uses q.goal) columns) and_then check (int_le (pos 0) q.goal.bound) (fault_of BoundNotShown 0 0 columns)) e in
    let b = both (unless_found ColumnDiffers (first_below (uses q.goal) columns)) (check (int_le (pos 0) q.goal.bound) (fault_of BoundNotShown 0 0 columns)) a.1 in
    record {
      empty = eqb-true _ _ (check_true _ _ a.0);
      zeros = λ k l. (int_eq_test-decides _ _).0 (not-false _ (first_none (uses q.goal) columns (found_none ColumnDiffers _ b.0) k l));
      bound = le_from _ _ (check_true _ _ b.1);
    }

-- the sum of products with coefficients that are all zero
zero_dot : (n : ℕ) (cs point : List ℤ) → ((k : ℕ) → k < n → slice_index_or cs k (pos 0) ≡ pos 0) → dot_to n cs point ≡ pos 0
zero_dot zero cs point h = refl
zero_dot (suc k) cs point h =
    let i = zero_dot k cs point (λ j l. h j (omega arith)) in
    ap (λ (z : ℤ). z +ℤ slice_index_or cs k (pos 0) *ℤ slice_index_or point k (pos 0)) i
    ∙ ap (λ (z : ℤ). pos 0 +ℤ z *ℤ slice_index_or point k (pos 0)) (h k (omega arith))
    ∙ (omega (arith, ints))

met : (goal : Numbers) (point : List ℤ) → ((k : ℕ) → k < columns → slice_index_or goal.coefficients k (pos 0) ≡ pos 0) → pos 0 ≤ℤ goal.bound → Meets point goal
unfolding dot
met goal point h b = subst (λ (z : ℤ). z ≤ℤ goal.bound) (sym (zero_dot columns goal.coefficients point h)) b

placed_at_start : (goal : Numbers) (certificate : List ℕ) (f : Fault) → zero_goal_tests goal certificate ≡ Err f → f.place ≤ length certificate
unfolding zero_goal_tests
placed_at_start goal certificate f e =
    check_first (length certificate == 0) CertificateLength 0 (unless_found ColumnDiffers (first_below (uses goal) columns) and_then check (int_le (pos 0) goal.bound) (fault_of BoundNotShown 0 0 columns)) f e
    (λ z. omega arith)
    (λ t h. either (unless_found ColumnDiffers (first_below (uses goal) columns)) (check (int_le (pos 0) goal.bound) (fault_of BoundNotShown 0 0 columns)) f h
    (λ a. let p = found_place ColumnDiffers _ f a in omega arith)
    (λ a. let p = check_place _ BoundNotShown columns f a in omega arith))

pub zero_goal_lawful : Lawful zero_goal_says
zero_goal_lawful =
    record {
      sound = λ q e point m. let y = zero_goal_only q e in met q.goal point y.zeros y.bound;
      placed = λ q f e. placed_at_start q.goal q.certificate f e;
    }
