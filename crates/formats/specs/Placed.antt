-- Where the fault of a refusal lies.
use Rattle.std.specs.Prelude.{◌≡◌, ℕ, ◌≤◌, Err}
use Rattle.rows.specs.declared.fault.Fault.{Fault}
use Rattle.rows.specs.Faults.{Said}

-- a fault has a place of at most n
pub record Placed (n : ℕ) (said : Said) : Type 0 where
  pub place : (f : Fault) → said ≡ Err f → f.place ≤ n
