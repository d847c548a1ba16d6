-- The method for goals that every point meets says yes exactly when all its conditions hold.
use Rattle.std.proofs.Common.{◌≡◌, ℕ, not, List, Ok, sym, ap}
use Rattle.std.proofs.lemmas.Bool.{eq-eqb}
use Rattle.rows.specs.declared.fault.FaultKind.TheVariants.{ColumnDiffers}
use Rattle.rows.specs.declared.numbers.Numbers.{Numbers}
use Rattle.rows.specs.Faults.{Said, unless_found}
use Rattle.rows.specs.Limits.{columns}
use Rattle.rows.proofs.Chains.{goes, checked}
use Rattle.rows.proofs.Equalities.{int_eq_test-decides}
use Rattle.rows.proofs.First.{none_first}
use Rattle.methods.specs.Questions.{Question, asked, YesExactly}
use Rattle.methods.proofs.Asked.{exactly}
use Rattle.extension.specs.ZeroGoalLaws.{zero_goal_only}
use Rattle.extension.specs.ZeroGoals.{uses, zero_goal_tests, zero_goal_says, ZeroGoalYes}
use Rattle.extension.proofs.OrderTests.{le_test}

pub zero_goal_if : (q : Question) → ZeroGoalYes q → zero_goal_says q ≡ Ok tt
unfolding zero_goal_tests
zero_goal_if q y =
    sym (goes _ _ _ (checked _ _ (eq-eqb _ _ y.empty))
    (goes _ _ _ (sym (ap (unless_found ColumnDiffers) (none_first (uses q.goal) columns (λ k l. ap not ((int_eq_test-decides _ _).1 (y.zeros k l))))))
    (checked _ _ (le_test _ _ y.bound))))

pub zero_goal_exactly : (count : ℕ) (sheet : List Numbers) (goal : Numbers) (certificate : List ℕ) (said : Said) → said ≡ asked zero_goal_says count sheet goal certificate → YesExactly said ZeroGoalYes count sheet goal certificate
zero_goal_exactly count sheet goal certificate said e = exactly count sheet goal certificate zero_goal_says ZeroGoalYes said e zero_goal_only zero_goal_if
