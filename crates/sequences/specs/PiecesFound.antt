-- What the code hands out of a piece that is found.
use Rattle.std.specs.Prelude.{◌≡◌, ℕ, ◌≤◌, List, length, Ok, Err, Result}
use Rattle.rows.specs.declared.fault.Fault.{Fault}
use Rattle.rows.specs.declared.fault.FaultKind.{FaultKind}
use Rattle.rows.specs.Bytes.{word_at}
use Rattle.formats.specs.Pieces.{piece_at, piece_end, piece_says}
use Rattle.sequences.specs.declared.piece.Piece.{Piece}

-- the piece at an offset
pub record IsPiece (bytes : List ℕ) (at : ℕ) (p : Piece) : Type 0 where
  pub offset : p.offset ≡ at
  pub rest : p.rest.now ≡ piece_at bytes at
  pub long : length p.rest.now ≡ word_at bytes at
  pub ends : piece_end bytes at ≤ length bytes

abbrev pub piece_found : FaultKind → List ℕ → ℕ → Result Piece Fault → Type 0
piece_found kind bytes at (Ok p) = (Ok tt ≡ piece_says kind bytes at) × IsPiece bytes at p
piece_found kind bytes at (Err f) = Err f ≡ piece_says kind bytes at
