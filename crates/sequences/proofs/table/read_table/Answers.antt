-- The laws of the format, for the bytes that are read.
use Rattle.formats.proofs.FaultPlaces.{placed_open}
use Rattle.formats.proofs.TablesWritten.{table_exactly}
use Rattle.records.specs.Held.{room}
use Rattle.sequences.proofs.table.read_table.Goals as goal

pub returns : goal.returns
returns c = record {
  answer = c.read_into.ensures.answer;
  memory = c.read_into.ensures.memory;
  exactly = table_exactly c.args.bytes.now c.bytes_fit.ensures;
  placed = placed_open (room c.args.transitions.now) c.args.places c.args.inners c.args.bytes.now;
}
