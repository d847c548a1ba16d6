-- What the weighted sum of facts asks, so that it fits 64 bits.
use Rattle.std.specs.Prelude.{ℕ, ◌+◌, ◌*◌, ◌<◌, ◌≤◌, List, length}
use Rattle.std.specs.List.{AllByRecursion}
use Rattle.rows.specs.declared.limits.Limit.TheVariants.{RowNumber}
use Rattle.rows.specs.declared.numbers.Numbers.{Numbers}
use Rattle.rows.specs.Limits.{magnitude_of}
use Rattle.rows.specs.Shapes.{Within}
use Rattle.methods.specs.Openings.{most_facts}
use Rattle.rows.specs.Bytes.{word_at}
use Rattle.methods.specs.Weights.{most_weight}

-- few facts, all of them rows
pub record Rows (facts : List Numbers) : Type 0 where
  pub few : length facts ≤ most_facts
  pub are_rows : AllByRecursion (Within (magnitude_of RowNumber)) facts

-- few facts, all of them rows, with a multiplier in range for each from `at` on
pub record Weighable (bytes : List ℕ) (at : ℕ) (facts : List Numbers) : Type 0 where
  pub few : length facts ≤ most_facts
  pub are_rows : AllByRecursion (Within (magnitude_of RowNumber)) facts
  pub inside : at + 2 * length facts ≤ length bytes
  pub in_range_lem : (i : ℕ) → i < length facts → word_at bytes (at + 2 * i) ≤ most_weight
