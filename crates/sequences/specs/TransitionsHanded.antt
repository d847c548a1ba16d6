-- What the reader of a table's transitions hands out, and where it stands.
use Rattle.std.specs.Prelude.{◌≡◌, ℕ, ◌-◌, ◌<◌, ◌≤◌, List, length, Some, None, Ok, Err, Option, Result}
use Rattle.rows.specs.declared.fault.Fault.{Fault}
use Rattle.rows.specs.Bytes.{word_at}
use Rattle.rows.specs.Faults.{Said}
use Rattle.records.specs.declared.records.Transition.{Transition}
use Rattle.records.specs.declared.shape.Shape.{Shape}
use Rattle.records.specs.Limits.{most_transitions}
use Rattle.records.specs.Records.{TransitionData, transition_of}
use Rattle.formats.specs.Pieces.{pieces_from, piece_at, piece_end}
use Rattle.formats.specs.Tables.{number_from, transition_at, next_says, transitions_at, transitions_say}
use Rattle.sequences.specs.declared.transitions.TransitionReader.{TransitionReader}

-- a reader: its bytes, the offset of the next piece, the shape of the rows, how many more may come, and the number of
-- the transition before
pub record ReadingData : Type 0 where
  pub bytes : List ℕ
  pub at : ℕ
  pub shape : Shape
  pub room : ℕ
  pub last : ℕ

abbrev pub reading_of : TransitionReader → ReadingData
reading_of r = record { bytes = r.bytes.now; at = r.at; shape = r.shape; room = r.room; last = r.last }

-- before the first transition
abbrev pub starting : List ℕ → Shape → ReadingData
starting bytes shape = record { bytes = bytes; at = piece_end bytes pieces_from; shape = shape; room = most_transitions; last = 0 }

-- behind the next piece
abbrev pub behind_next : ReadingData → ReadingData
behind_next r = record {
  bytes = r.bytes;
  at = piece_end r.bytes r.at;
  shape = r.shape;
  room = r.room - 1;
  last = word_at (piece_at r.bytes r.at) number_from;
}

-- the transitions still to come, and what their tests say
abbrev pub coming : ReadingData → List TransitionData
coming r = transitions_at r.shape r.bytes r.room r.at

abbrev pub coming_say : ReadingData → Said
coming_say r = transitions_say r.shape r.bytes r.room r.last r.at

abbrev pub next_test : ReadingData → Said
next_test r = next_says r.shape r.bytes r.room r.last r.at

-- nothing where no byte is left; else the transition in the next piece, or the fault of that piece
abbrev pub HandedOut : ReadingData → Result (Option Transition) Fault → ReadingData → Type 0
HandedOut r (Ok None) s = (length r.bytes ≤ r.at) × (s ≡ r)
HandedOut r (Ok (Some t)) s = (r.at < length r.bytes) × (Ok tt ≡ next_test r) × (transition_of t ≡ transition_at r.shape (piece_at r.bytes r.at)) × (s ≡ behind_next r)
HandedOut r (Err f) s = (r.at < length r.bytes) × (Err f ≡ next_test r) × (s ≡ r)
