-- The laws of the format, for the bytes that are read.
use Rattle.std.proofs.Common.{length, sym, subst}
use Rattle.formats.specs.Placed.{Placed}
use Rattle.formats.proofs.WitnessPlaces.{placed_admit}
use Rattle.formats.proofs.WitnessesWritten.{witness_exactly}
use Rattle.records.specs.Held.{room}
use Rattle.sequences.specs.TableGiven.{shape_in, transitions_in}
use Rattle.sequences.proofs.admission.read_witness.Goals as goal

pub returns : goal.returns
returns c =
    let transitions = transitions_in c.args.table in
    let shape = shape_in c.args.table in
    let limits = c.args.table.heading.now.limits in
    record {
      answer = c.read_into.ensures.answer;
      memory = c.read_into.ensures.memory;
      exactly = witness_exactly transitions shape (record { values = limits.0; choices = limits.1 }) c.args.bytes.now c.bytes_fit.ensures;
      placed = subst (Placed (length c.args.bytes.now)) (sym c.read_into.ensures.answer) (placed_admit (room c.args.places.now) (room c.args.inners.now) transitions shape c.args.bytes.now);
    }
