-- What is made of a certificate on the way to the row that a split adds, and of the answers to its two halves.
use Rattle.std.specs.Prelude.{◌≡◌, ℕ, List, take, drop, Ok, Err, Result}
use Rattle.rows.specs.declared.fault.Fault.{Fault}
use Rattle.rows.specs.declared.written.WrittenRow.{WrittenRow}
use Rattle.rows.specs.declared.numbers.Numbers.{Numbers}
use Rattle.rows.specs.Faults.{Said, ◌and_then◌, moved}
use Rattle.rows.specs.Shapes.{opposite_of}
use Rattle.methods.specs.Layers.{adding}
use Rattle.methods.specs.Questions.{Question, Meaning}
use Rattle.methods.specs.Splits.{first_from, split_row, split_tests}

-- the row, where all tests are passed, else the first fault
abbrev pub SplitMade : List ℕ → Result WrittenRow Fault → Type 0
SplitMade certificate (Ok row) = (Ok tt ≡ split_tests certificate) × (row.numbers ≡ split_row certificate)
SplitMade certificate (Err f) = Err f ≡ split_tests certificate

-- the method below asked with a row as one more fact, by the bytes up to where the second certificate begins, and after a
-- yes with the row's opposite, by the rest
abbrev pub halves : Meaning → Numbers → ℕ → Question → Said
halves below row second q =
    moved first_from (below (adding row (drop first_from (take second q.certificate)) q))
    and_then moved second (below (adding (opposite_of row) (drop second q.certificate) q))
