-- The readers take exactly the bytes that are written: every valid table is read back from its bytes, and whatever is read
-- is valid and stands in no other bytes. The same for a witness against the transitions of a table.
use Rattle.std.specs.Prelude.{◌≡◌, ℕ, List, Ok}
use Rattle.records.specs.declared.shape.Shape.{Shape}
use Rattle.records.specs.Records.{TransitionData, TableData, WitnessData}
use Rattle.formats.specs.Tables.{read_table}
use Rattle.formats.specs.Valid.{ValidTable, ValidWitness}
use Rattle.formats.specs.Witnesses.{read_witness}
use Rattle.formats.specs.Writing.{table_bytes, witness_bytes}

pub record TableExactly (bytes : List ℕ) : Type 0 where
  pub read_back : (t : TableData) → ValidTable t → bytes ≡ table_bytes t → read_table bytes ≡ Ok t
  pub only_written : (t : TableData) → read_table bytes ≡ Ok t → ValidTable t × (bytes ≡ table_bytes t)

pub record WitnessExactly (transitions : List TransitionData) (shape : Shape) (bytes : List ℕ) : Type 0 where
  pub read_back : (w : WitnessData) → ValidWitness transitions shape w → bytes ≡ witness_bytes shape w → read_witness transitions shape bytes ≡ Ok w
  pub only_written : (w : WitnessData) → read_witness transitions shape bytes ≡ Ok w → ValidWitness transitions shape w × (bytes ≡ witness_bytes shape w)
