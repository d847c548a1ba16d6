-- The look-up: the goal, or a stronger row with its coefficients, stands among the facts.
use Rattle.std.specs.Prelude.{◌≡◌, ℕ, Bool, ◌&&◌, List, length, ◌≤ℤ◌, ◌==◌, int_le}
use Rattle.std.specs.List.{ContainsAt as Has, list_any}
use Rattle.rows.specs.declared.fault.FaultKind.TheVariants.{CertificateLength, BoundNotShown}
use Rattle.rows.specs.declared.numbers.Numbers.{Numbers}
use Rattle.rows.specs.Faults.{Said, fault_of, ◌and_then◌, check}
use Rattle.rows.specs.Limits.{columns}
use Rattle.rows.specs.Wholes.{alike}
use Rattle.methods.specs.Openings.{Begun, opened}
use Rattle.methods.specs.Questions.{Question, Meaning}

-- a fact with the goal's coefficients and a bound at most the goal's
abbrev pub covers : Numbers → Numbers → Bool
covers fact goal = alike fact.coefficients goal.coefficients && int_le fact.bound goal.bound

-- whether one of the facts is such a one
abbrev pub listed : Numbers → List Numbers → Bool
listed goal facts = list_any (λ fact. covers fact goal) facts

-- the tests behind the opening ones, in their order
unfoldable pub search_says : List Numbers → Numbers → List ℕ → Said
search_says facts goal certificate =
    check (length certificate == 0) (fault_of CertificateLength 0 0 0)
    and_then check (listed goal facts) (fault_of BoundNotShown 0 0 columns)

-- what the look-up means
abbrev pub look_up_says : Meaning
look_up_says = opened (λ q. search_says q.facts q.goal q.certificate)

-- a fact that shows the goal
pub record Covers (goal fact : Numbers) : Type 0 where
  pub same_coefficients : fact.coefficients ≡ goal.coefficients
  pub bound_at_most_lem : fact.bound ≤ℤ goal.bound

-- when it says yes: every condition
pub record LookUpYes (q : Question) : Type 0 where
  pub begun : Begun q
  pub empty : length q.certificate ≡ 0
  pub stands : ∥ ((fact : Numbers) × (Has q.facts fact × Covers q.goal fact)) ∥₁
