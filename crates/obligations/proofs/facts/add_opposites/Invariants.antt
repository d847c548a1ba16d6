use Rattle.std.proofs.Common.{◌≡◌, ◌++◌, map, length, take}
use Rattle.rows.specs.Shapes.{opposite_of}
use Rattle.records.specs.Bounded.{listed, plain_list}
use Rattle.records.specs.Records.{entry_of}
use Rattle.semantics.specs.Obligations.{tests}
use Rattle.obligations.proofs.facts.add_opposites.Given as goal

abbrev pub invariant-loop-entry : goal.invariant-loop-entry
invariant-loop-entry l = listed l.facts ≡ listed l.initial.facts ++ take (length l.yielded) (map opposite_of (tests (plain_list entry_of l.tested)))
