-- The definitions of reading compute on real bytes: the sample table and its witness are read as they should be.
use Rattle.std.proofs.Common.{◌≡◌, Ok, refl}
use Rattle.rows.specs.Shapes.{first_beyond}
use Rattle.formats.specs.Pieces.{piece_says}
use Rattle.records.specs.Records.{shape_of}
use Rattle.formats.specs.Samples.{sample_table_bytes, sample_table, sample_witness_bytes, sample_witness}
use Rattle.formats.specs.StoredRows.{item_at, row_says}
use Rattle.formats.specs.Tables.{heading_says, transition_says, transitions_at, transitions_say, table_at, content_says, read_table}
use Rattle.formats.specs.Walks.{pieces_at, walk_says}
use Rattle.formats.specs.Witnesses.{place_says, inner_says, kind_says, pieces_of, pieces_say, entry_fits, inner_fits, plan_says, read_witness}
use Rattle.formats.specs.Witnesses as witnesses

pub table_read : read_table sample_table_bytes ≡ Ok sample_table
unfolding sample_table_bytes sample_table first_beyond piece_says item_at row_says heading_says transition_says transitions_at transitions_say table_at content_says
table_read = refl

pub witness_read : read_witness sample_table.transitions (shape_of sample_table.heading) sample_witness_bytes ≡ Ok sample_witness
unfolding sample_table sample_witness_bytes sample_witness first_beyond piece_says item_at row_says pieces_at walk_says place_says inner_says kind_says pieces_of pieces_say entry_fits inner_fits plan_says witnesses.content_says
witness_read = refl
