-- Where a count through a list ends: at what has the index, or behind the last with some left to count.
use Rattle.std.specs.Prelude.{◌≡◌, ℕ, ◌+◌, List, length, Some}
use Rattle.std.specs.declared.ops.ControlFlow.{ControlFlow}
use Rattle.std.specs.declared.ops.ControlFlow.TheVariants.{Continue, Break}
use Rattle.records.specs.Lists.{at}

abbrev pub Reached : {A : Type 0} → ℕ → List A → ControlFlow A ℕ → Type 0
Reached index xs (Break x) = at index xs ≡ Some x
Reached index xs (Continue left) = index ≡ length xs + left
