use Rattle.std.proofs.Common.{◌≡◌, ◌-◌, length}
use Rattle.sequences.specs.TransitionsHanded.{reading_of, coming_say}
use Rattle.sequences.proofs.table.transitions_test.Given as goal

abbrev pub invariant-loop : goal.invariant-loop
invariant-loop l = coming_say (reading_of l.reader) ≡ coming_say (reading_of l.initial.reader)

abbrev pub decreases-loop : goal.decreases-loop
decreases-loop l = length l.reader.bytes.now - l.reader.at
