-- The method for goals that every point meets: coefficients that are all zero, and a bound of at least zero.
use Rattle.std.specs.Prelude.{◌≡◌, ℕ, ◌<◌, Bool, not, List, length, pos, ◌≤ℤ◌, ◌==◌, int_le, slice_index_or}
use Rattle.rows.specs.declared.fault.FaultKind.TheVariants.{CertificateLength, ColumnDiffers, BoundNotShown}
use Rattle.rows.specs.declared.numbers.Numbers.{Numbers}
use Rattle.rows.specs.Faults.{Said, fault_of, ◌and_then◌, check, unless_found}
use Rattle.rows.specs.Firsts.{first_below}
use Rattle.rows.specs.Limits.{columns}
use Rattle.rows.specs.Wholes.{int_eq_test}
use Rattle.methods.specs.Questions.{Question, Meaning}

-- the goal's coefficient in a column is not zero
abbrev pub uses : Numbers → ℕ → Bool
uses goal column = not (int_eq_test (slice_index_or goal.coefficients column (pos 0)) (pos 0))

-- no byte, no column used, no bound below zero: the tests in their order
unfoldable pub zero_goal_tests : Numbers → List ℕ → Said
zero_goal_tests goal certificate =
    check (length certificate == 0) (fault_of CertificateLength 0 0 0)
    and_then unless_found ColumnDiffers (first_below (uses goal) columns)
    and_then check (int_le (pos 0) goal.bound) (fault_of BoundNotShown 0 0 columns)

-- what the method means: the facts are not looked at
abbrev pub zero_goal_says : Meaning
zero_goal_says q = zero_goal_tests q.goal q.certificate

-- when it says yes: every condition
pub record ZeroGoalYes (q : Question) : Type 0 where
  pub empty : length q.certificate ≡ 0
  pub zeros : (k : ℕ) → k < columns → slice_index_or q.goal.coefficients k (pos 0) ≡ pos 0
  pub bound : pos 0 ≤ℤ q.goal.bound
