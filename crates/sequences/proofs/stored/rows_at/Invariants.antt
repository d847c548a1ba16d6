use Rattle.std.proofs.Common.{◌≡◌, map, Ok}
use Rattle.records.specs.Bounded.{listed}
use Rattle.formats.specs.StoredRows.{rows_at, rows_say}
use Rattle.sequences.proofs.stored.rows_at.Given as goal

abbrev pub invariant-loop-i : goal.invariant-loop-i
invariant-loop-i g l =
    (Ok tt ≡ rows_say l.kind l.shape l.piece.offset l.piece.rest.now l.from l.i)
    × (map g.T.Written.plain (listed l.rows) ≡ rows_at l.shape l.piece.rest.now l.from l.i)
