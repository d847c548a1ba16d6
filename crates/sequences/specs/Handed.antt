-- What the reader of a witness hands out, and where it stands.
use Rattle.std.specs.Prelude.{ℕ, cond, List, length, Some, None, Ok, Err, Option, Result, nat_lt}
use Rattle.rows.specs.declared.fault.Fault.{Fault}
use Rattle.rows.specs.declared.fault.FaultKind.TheVariants.{WitnessLength}
use Rattle.rows.specs.Faults.{Said, ◌and_then◌}
use Rattle.sequences.specs.declared.piece.Piece.{Piece}
use Rattle.sequences.specs.declared.piece.LocatedPiece.{LocatedPiece}
use Rattle.sequences.specs.declared.witness.WitnessPiece.{WitnessPiece}
use Rattle.sequences.specs.declared.witness.WitnessPiece.TheVariants.{Place, Transition}
use Rattle.sequences.specs.declared.witness.LocatedPart.{LocatedPart}
use Rattle.sequences.specs.declared.witness.LocatedPart.TheVariants.{Place as LocatedPlace, Transition as LocatedTransition}
use Rattle.sequences.specs.declared.witness.WitnessReader.{WitnessReader}
use Rattle.sequences.specs.declared.witness.WitnessRecord.{WitnessRecord}
use Rattle.sequences.specs.declared.witness.WitnessRecord.TheVariants.{Listed, Declared}
use Rattle.sequences.specs.declared.witness.Noted.{Noted}
use Rattle.records.specs.Bounded.{listed}
use Rattle.records.specs.Records.{place_record_of, inner_of}
use Rattle.formats.specs.Pieces.{piece_says, piece_end, giving}
use Rattle.formats.specs.Walks.{PieceData, piece_data}
use Rattle.formats.specs.Witnesses.{PartData, PlacePart, InnerPart, part_of, kind_says, Progress, RecordData, PlaceRecord, InnerRecord}

-- a piece that was found, as a user gets it
abbrev pub plain_piece : LocatedPiece → Piece
plain_piece p = record { offset = p.offset; rest = p.rest }

abbrev pub plain_part : LocatedPart → WitnessPiece
plain_part (LocatedPlace p) = Place (plain_piece p)
plain_part (LocatedTransition p) = Transition (plain_piece p)

-- what the code's pieces, and what it reads from them, say in the words of the definitions
abbrev pub piece_of : Piece → PieceData
piece_of p = record { offset = p.offset; rest = p.rest.now }

abbrev pub data_of : WitnessPiece → PartData
data_of (Place p) = PlacePart (piece_of p)
data_of (Transition p) = InnerPart (piece_of p)

abbrev pub located_of : LocatedPart → PartData
located_of p = data_of (plain_part p)

abbrev pub record_of : WitnessRecord → RecordData
record_of (Listed p) = PlaceRecord (place_record_of p)
record_of (Declared i) = InnerRecord (inner_of i)

abbrev pub progress_of : Noted → Progress
progress_of p = record { places = listed p.places; inners = listed p.inners }

-- a reader: its bytes, and the offset of the next piece
pub record ReaderData : Type 0 where
  pub bytes : List ℕ
  pub at : ℕ

abbrev pub standing : List ℕ → ℕ → ReaderData
standing bytes at = record { bytes = bytes; at = at }

abbrev pub reader_of : WitnessReader → ReaderData
reader_of r = standing r.bytes.now r.at

-- the tests on the way to a piece of a known kind
abbrev pub part_found : ReaderData → Said
part_found r = piece_says WitnessLength r.bytes r.at and_then kind_says (piece_data r.bytes r.at)

unfoldable pub handed_at : ReaderData → Result (Option PartData) Fault
handed_at r = cond (nat_lt r.at (length r.bytes)) (giving (part_found r) (Some (part_of (piece_data r.bytes r.at)))) (Ok None)

abbrev pub passing : Said → ReaderData → ReaderData
passing (Ok u) r = standing r.bytes (piece_end r.bytes r.at)
passing (Err f) r = r

-- behind the piece that was handed out, else where it stood
unfoldable pub passed_at : ReaderData → ReaderData
passed_at r = cond (nat_lt r.at (length r.bytes)) (passing (part_found r) r) r
