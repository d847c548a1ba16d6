use Rattle.std.proofs.Common.{◌≡◌, ◌+◌, ◌-◌, ◌≤◌, ◌++◌, map, length, drop, Ok}
use Rattle.records.specs.Held.{held, behind, room}
use Rattle.records.specs.Records.{transition_of}
use Rattle.sequences.specs.TransitionsHanded.{reading_of, coming, coming_say}
use Rattle.sequences.proofs.table.fill.Given as goal

abbrev pub invariant-loop-transition : goal.invariant-loop-transition
invariant-loop-transition l = record {
  passed : Ok tt ≡ coming_say (reading_of l.reader);
  items : map transition_of (held l.register) ++ coming (reading_of l.reader) ≡ coming (reading_of l.initial.reader);
  fits : length (held l.register) + l.reader.room ≤ room l.register;
  behind_is : behind l.register ≡ drop (length (held l.register)) (behind l.initial.register);
}

abbrev pub decreases-loop-transition : goal.decreases-loop-transition
decreases-loop-transition l = length l.reader.bytes.now - l.reader.at
