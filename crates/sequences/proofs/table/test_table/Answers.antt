-- The laws of the format, for the bytes that are tested.
use Rattle.std.proofs.Common.{rules}
use Rattle.formats.proofs.FaultPlaces.{placed_table}
use Rattle.formats.proofs.TablesWritten.{table_exactly}
use Rattle.sequences.proofs.table.test_table.Goals as goal

pub returns : goal.returns
returns c = record { answer = search rules; exactly = table_exactly c.args.bytes.now c.bytes_fit.ensures; placed = placed_table c.args.bytes.now }
