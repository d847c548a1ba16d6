use Rattle.std.proofs.Common.{◌-◌, length}
use Rattle.sequences.specs.Handed.{reader_of, progress_of}
use Rattle.records.specs.Records.{heading_of, shape_of}
use Rattle.sequences.proofs.WitnessWalks.{Walking}
use Rattle.sequences.proofs.witness.pieces_test.Given as goal

abbrev pub invariant-loop-piece : goal.invariant-loop-piece
invariant-loop-piece l = Walking (shape_of (heading_of l.heading)) l.bytes (reader_of l.reader) (progress_of l.noted)

abbrev pub decreases-loop-piece : goal.decreases-loop-piece
decreases-loop-piece l = length l.reader.bytes.now - l.reader.at
