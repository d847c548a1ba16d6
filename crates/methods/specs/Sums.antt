-- The multiplier method: a weighted sum of the facts is a multiple of the goal.
use Rattle.std.specs.Prelude.{◌≡◌, ℕ, ◌+◌, ◌*◌, ◌<◌, ◌≤◌, Bool, not, List, length, ℤ, pos, ◌*ℤ◌, ◌≤ℤ◌, ◌==◌, int_le}
use Rattle.rows.specs.declared.fault.FaultKind.TheVariants.{CertificateLength, ColumnDiffers, BoundNotShown}
use Rattle.rows.specs.declared.numbers.Numbers.{Numbers}
use Rattle.rows.specs.Faults.{Said, fault_of, ◌and_then◌, check, unless_found}
use Rattle.rows.specs.Firsts.{first_below}
use Rattle.rows.specs.Limits.{columns}
use Rattle.rows.specs.Shapes.{item_of}
use Rattle.rows.specs.Wholes.{int_eq_test}
use Rattle.methods.specs.Openings.{Begun, opened}
use Rattle.methods.specs.Questions.{Question, Meaning}
use Rattle.rows.specs.Bytes.{word_at}
use Rattle.methods.specs.Weights.{most_weight, range_says, weights_say, weighted}

-- where the multipliers of the facts begin: behind the goal's
abbrev pub weights_from : ℕ
weights_from = 2

-- the goal's number of an item, times the goal's multiplier
abbrev pub scaled : Numbers → List ℕ → ℕ → ℤ
scaled goal certificate item = pos (word_at certificate 0) *ℤ item_of goal item

-- a column in which the facts' sum is not the goal's multiple
abbrev pub differs : List Numbers → Numbers → List ℕ → ℕ → Bool
differs facts goal certificate column = not (int_eq_test (weighted column certificate weights_from facts) (scaled goal certificate column))

abbrev pub columns_say : List Numbers → Numbers → List ℕ → Said
columns_say facts goal certificate = unless_found ColumnDiffers (first_below (differs facts goal certificate) columns)

-- the rule on bounds: the facts' sum is at most the goal's multiple
abbrev pub Shown : List Numbers → Numbers → List ℕ → Type 0
Shown facts goal certificate = weighted columns certificate weights_from facts ≤ℤ scaled goal certificate columns

abbrev pub bound_says : List Numbers → Numbers → List ℕ → Said
bound_says facts goal certificate =
    check (int_le (weighted columns certificate weights_from facts) (scaled goal certificate columns)) (fault_of BoundNotShown 0 0 columns)

-- the tests behind the opening ones, in their order
unfoldable pub sums_say : List Numbers → Numbers → List ℕ → Said
sums_say facts goal certificate =
    check (length certificate == weights_from + 2 * length facts) (fault_of CertificateLength 0 0 0)
    and_then range_says 1 certificate 0
    and_then weights_say certificate weights_from facts
    and_then columns_say facts goal certificate
    and_then bound_says facts goal certificate

-- what the multiplier method means
abbrev pub multipliers_say : Meaning
multipliers_say = opened (λ q. sums_say q.facts q.goal q.certificate)

-- when it says yes: every condition
pub record MultipliersYes (q : Question) : Type 0 where
  pub begun : Begun q
  pub whole : length q.certificate ≡ weights_from + 2 * length q.facts
  pub goal_weight_least : 1 ≤ word_at q.certificate 0
  pub goal_weight_most : word_at q.certificate 0 ≤ most_weight
  pub weights : (i : ℕ) → i < length q.facts → word_at q.certificate (weights_from + 2 * i) ≤ most_weight
  pub columns_agree : (k : ℕ) → k < columns → weighted k q.certificate weights_from q.facts ≡ scaled q.goal q.certificate k
  pub bound_shown : Shown q.facts q.goal q.certificate
