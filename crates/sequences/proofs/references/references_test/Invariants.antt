use Rattle.std.proofs.Common.{◌≡◌, ◌-◌, length}
use Rattle.sequences.specs.Handed.{reader_of, progress_of}
use Rattle.formats.specs.Witnesses.{Progress, named_in, pieces_of, references_say}
use Rattle.sequences.specs.TableGiven.{shape_in, transitions_in}
use Rattle.sequences.proofs.WitnessWalks.{Walking, ahead}
use Rattle.sequences.proofs.references.references_test.Given as goal

abbrev pub invariant-loop-piece : goal.invariant-loop-piece
invariant-loop-piece l =
    ((s : Progress) × Walking (shape_in l.table) l.bytes (reader_of l.reader) s)
    × (references_say (shape_in l.table) (named_in (transitions_in l.table) (progress_of l.noted)) (ahead (reader_of l.reader)) ≡ references_say (shape_in l.table) (named_in (transitions_in l.table) (progress_of l.noted)) (pieces_of l.bytes))

abbrev pub decreases-loop-piece : goal.decreases-loop-piece
decreases-loop-piece l = length l.reader.bytes.now - l.reader.at
