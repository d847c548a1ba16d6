-- Worked examples of reading: the sample table and its witness, as equations that compute.
use Rattle.std.specs.Prelude.{◌≡◌, Ok}
use Rattle.records.specs.Records.{shape_of}
use Rattle.formats.specs.Samples.{sample_table_bytes, sample_table, sample_witness_bytes, sample_witness}
use Rattle.formats.specs.Tables.{read_table}
use Rattle.formats.specs.Witnesses.{read_witness}

pub record ReaderExamples : Type 0 where
  -- the bytes of the sample table are read as it
  pub sample_table_lem : read_table sample_table_bytes ≡ Ok sample_table
  -- and those of its witness, against that table
  pub sample_witness_lem : read_witness sample_table.transitions (shape_of sample_table.heading) sample_witness_bytes ≡ Ok sample_witness
