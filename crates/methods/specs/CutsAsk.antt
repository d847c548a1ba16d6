-- What the division of the facts' sums rests on, and what is made of a certificate on the way to the row that a cut adds.
use Rattle.std.specs.Prelude.{◌≡◌, ℕ, ◌≤◌, List, Ok, Err, Result}
use Rattle.rows.specs.declared.fault.Fault.{Fault}
use Rattle.rows.specs.declared.numbers.Numbers.{Numbers}
use Rattle.methods.specs.Cuts.{cut_weights_from, divisor, cut_row, cut_tests}
use Rattle.methods.specs.Weights.{most_weight}

-- the multipliers stand behind the divisor, which is the certificate's and in range
pub record Divisible (certificate : List ℕ) (from number : ℕ) : Type 0 where
  pub behind : from ≡ cut_weights_from
  pub written : number ≡ divisor certificate
  pub divisor_least : 1 ≤ divisor certificate
  pub divisor_most : divisor certificate ≤ most_weight

-- the row, where all tests are passed, else the first fault
abbrev pub CutMade : List Numbers → List ℕ → Result Numbers Fault → Type 0
CutMade facts certificate (Ok row) = (Ok tt ≡ cut_tests facts certificate) × (row ≡ cut_row facts certificate)
CutMade facts certificate (Err f) = Err f ≡ cut_tests facts certificate
