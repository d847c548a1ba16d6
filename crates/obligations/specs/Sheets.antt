-- Facts on a sheet.
use Rattle.std.specs.Prelude.{◌≡◌, ℕ, ◌<◌, ◌≤◌, List, ◌++◌, length, drop, Some, None, Option}
use Rattle.rows.specs.declared.numbers.Numbers.{Numbers}

-- the facts stand at the front, in their order, and what lies behind them is as it was; where the sheet has fewer rows, it
-- is as it was
abbrev pub Laid : List Numbers → List Numbers → List Numbers → Option ℕ → Type 0
Laid facts before after (Some n) = (n ≡ length facts) × (length facts ≤ length before) × (after ≡ facts ++ drop n before)
Laid facts before after None = (length before < length facts) × (after ≡ before)
