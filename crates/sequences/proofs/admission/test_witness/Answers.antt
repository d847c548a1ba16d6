-- The laws of the format, for the bytes that are tested.
use Rattle.std.proofs.Common.{length, sym, subst}
use Rattle.formats.specs.Placed.{Placed}
use Rattle.formats.proofs.WitnessPlaces.{placed_witness}
use Rattle.formats.proofs.WitnessesWritten.{witness_exactly}
use Rattle.sequences.specs.TableGiven.{shape_in, transitions_in}
use Rattle.sequences.proofs.admission.test_witness.Goals as goal

pub returns : goal.returns
returns c =
    let transitions = transitions_in c.args.table in
    let shape = shape_in c.args.table in
    let limits = c.args.table.heading.now.limits in
    record {
      answer = c.tested.ensures;
      exactly = witness_exactly transitions shape (record { values = limits.0; choices = limits.1 }) c.args.bytes.now c.bytes_fit.ensures;
      placed = subst (Placed (length c.args.bytes.now)) (sym c.tested.ensures) (placed_witness transitions shape c.args.bytes.now);
    }
