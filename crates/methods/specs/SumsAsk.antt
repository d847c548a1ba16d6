-- What the comparison of the facts' sums with the goal's multiple rests on, so that all of it fits 64 bits.
use Rattle.std.specs.Prelude.{◌≡◌, ℕ, ◌≤◌, List}
use Rattle.rows.specs.declared.limits.Limit.TheVariants.{RowNumber}
use Rattle.rows.specs.declared.numbers.Numbers.{Numbers}
use Rattle.rows.specs.Limits.{magnitude_of}
use Rattle.rows.specs.Shapes.{Within}
use Rattle.rows.specs.Bytes.{word_at}
use Rattle.methods.specs.Sums.{weights_from}
use Rattle.methods.specs.Weights.{most_weight}

-- the multipliers of the facts stand behind the goal's, which is the certificate's and in range, and the goal is a row
pub record Comparable (certificate : List ℕ) (from : ℕ) (goal : Numbers) (weight : ℕ) : Type 0 where
  pub behind : from ≡ weights_from
  pub written : weight ≡ word_at certificate 0
  pub weight_most : weight ≤ most_weight
  pub is_row : Within (magnitude_of RowNumber) goal
