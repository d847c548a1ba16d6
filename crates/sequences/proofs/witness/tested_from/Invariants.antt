use Rattle.std.proofs.Common.{◌≡◌, map, Ok}
use Rattle.records.specs.Bounded.{listed}
use Rattle.records.specs.Records.{entry_of}
use Rattle.formats.specs.Witnesses.{tested_at, tested_say}
use Rattle.sequences.proofs.witness.tested_from.Given as goal

abbrev pub invariant-loop-i : goal.invariant-loop-i
invariant-loop-i l =
    (Ok tt ≡ tested_say l.fn.shape l.piece.offset l.piece.rest.now l.from l.i)
    × (map entry_of (listed l.entries) ≡ tested_at l.fn.shape l.piece.rest.now l.from l.i)
