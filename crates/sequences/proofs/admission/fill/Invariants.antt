use Rattle.std.proofs.Common.{◌-◌, length}
use Rattle.sequences.specs.Handed.{reader_of, progress_of}
use Rattle.records.specs.Records.{heading_of, shape_of, place_record_of, inner_of}
use Rattle.formats.specs.Witnesses.{places_of, inners_of, witness_at}
use Rattle.sequences.proofs.Filling.{Filled}
use Rattle.sequences.proofs.WitnessWalks.{Walking, ahead}
use Rattle.sequences.proofs.admission.fill.Given as goal

abbrev pub invariant-loop-piece : goal.invariant-loop-piece
invariant-loop-piece l =
    Walking (shape_of (heading_of l.heading)) l.bytes (reader_of l.reader) (progress_of l.noted)
    × Filled place_record_of (witness_at (shape_of (heading_of l.heading)) l.bytes).places (places_of (shape_of (heading_of l.heading)) (ahead (reader_of l.reader))) (progress_of l.noted).places l.initial.places l.places
    × Filled inner_of (witness_at (shape_of (heading_of l.heading)) l.bytes).inners (inners_of (shape_of (heading_of l.heading)) (ahead (reader_of l.reader))) (progress_of l.noted).inners l.initial.inners l.inners

abbrev pub decreases-loop-piece : goal.decreases-loop-piece
decreases-loop-piece l = length l.reader.bytes.now - l.reader.at
