-- The layer that shows a goal by a stronger one: the method below is asked for the goal with a lower bound.
use Rattle.std.specs.Prelude.{◌≡◌, ℕ, ◌<◌, ◌≤◌, ◌&&◌, ◌⊎◌, List, length, drop, ℤ, pos, ◌-ℤ◌, ◌≤ℤ◌, Ok, Err, Result, int_le, nat_le, slice_index}
use Rattle.rows.specs.declared.fault.Fault.{Fault}
use Rattle.rows.specs.declared.fault.FaultKind.TheVariants.{CertificateLength, LayerRowTooLarge}
use Rattle.rows.specs.declared.limits.Limit.TheVariants.{RowNumber, WrittenNumber}
use Rattle.rows.specs.declared.numbers.Numbers.{Numbers}
use Rattle.rows.specs.Bytes.{number_at}
use Rattle.rows.specs.Faults.{Said, fault_of, ◌and_then◌, check, moved}
use Rattle.rows.specs.Limits.{columns, magnitude_of}
use Rattle.rows.specs.Shapes.{Within}
use Rattle.methods.specs.Cuts.{HandedYes}
use Rattle.methods.specs.Layers.{first_byte_of, by_first, from}
use Rattle.methods.specs.Openings.{row_says}
use Rattle.methods.specs.Questions.{Question, question, Meaning}

-- where the number stands by which the bound is lowered, and where the lower certificate begins
abbrev pub slack_from : ℕ
slack_from = 1

abbrev pub lower_from : ℕ
lower_from = 5

abbrev pub slack : List ℕ → ℤ
slack certificate = number_at certificate slack_from

-- the stronger goal: the same coefficients with a lower bound
abbrev pub lowered : Numbers → List ℕ → Numbers
lowered goal certificate = record { coefficients = goal.coefficients; bound = goal.bound -ℤ slack certificate }

-- the number lies between 0 and the greatest written number
abbrev pub slack_says : ℤ → Said
slack_says n = check (int_le (pos 0) n && int_le n (pos (magnitude_of WrittenNumber))) (fault_of LayerRowTooLarge slack_from 0 columns)

-- the tests on the way to it: the number is there, and lies between 0 and the greatest written number
unfoldable pub slack_tests : List ℕ → Said
slack_tests certificate =
    check (nat_le lower_from (length certificate)) (fault_of CertificateLength 0 0 0)
    and_then check (int_le (pos 0) (slack certificate) && int_le (slack certificate) (pos (magnitude_of WrittenNumber))) (fault_of LayerRowTooLarge slack_from 0 columns)

-- the stronger goal, where all tests are passed, else the first fault
abbrev pub LoweredFrom : Numbers → List ℕ → Result Numbers Fault → Type 0
LoweredFrom goal certificate (Ok row) = (Ok tt ≡ slack_tests certificate) × (row ≡ lowered goal certificate)
LoweredFrom goal certificate (Err f) = Err f ≡ slack_tests certificate

-- the question about the stronger goal, with the rest of the certificate
abbrev pub stronger : Question → Question
stronger q = question q.facts (lowered q.goal q.certificate) (drop lower_from q.certificate) q.rows

-- the layer's own part
unfoldable pub weaken_own : Meaning → Meaning
weaken_own below q = slack_tests q.certificate and_then moved lower_from (below (stronger q))

-- what the layer over a method means: the goal is a row, then by the first byte the method below or the own part
unfoldable pub weaken_says : Meaning → Meaning
weaken_says below q =
    row_says q.goal
    and_then by_first (first_byte_of q.certificate) (moved 1 (below (from 1 q))) (weaken_own below q)

-- when its own part says yes: every condition
pub record WeakenOwnYes (below : Meaning) (q : Question) : Type 0 where
  pub first_byte : (0 < length q.certificate) × (slice_index q.certificate 0 ≡ 1)
  pub long : lower_from ≤ length q.certificate
  pub slack_least : pos 0 ≤ℤ slack q.certificate
  pub slack_most : slack q.certificate ≤ℤ pos (magnitude_of WrittenNumber)
  pub below_yes : below (stronger q) ≡ Ok tt

-- when the layer says yes
pub record WeakenYes (below : Meaning) (q : Question) : Type 0 where
  pub goal_is_row : Within (magnitude_of RowNumber) q.goal
  pub by : HandedYes below q ⊎ WeakenOwnYes below q
