-- Walking over the pieces of some bytes from the front. A piece takes a byte at least, so there are no more pieces than
-- bytes.
use Rattle.std.specs.Prelude.{ℕ, zero, suc, ◌-◌, cond, List, [], ◌∷◌, length, Ok, nat_lt}
use Rattle.rows.specs.declared.fault.FaultKind.{FaultKind}
use Rattle.rows.specs.Faults.{Said, ◌and_then◌}
use Rattle.formats.specs.Pieces.{piece_at, piece_end, piece_says}

-- a piece: where it begins, and its rest
pub record PieceData : Type 0 where
  pub offset : ℕ
  pub rest : List ℕ

abbrev pub piece_data : List ℕ → ℕ → PieceData
piece_data bytes at = record { offset = at; rest = piece_at bytes at }

-- the bytes from an offset on
abbrev pub left : List ℕ → ℕ → ℕ
left bytes at = length bytes - at

-- the pieces from an offset to the end, at most n
unfoldable pub pieces_at : List ℕ → ℕ → ℕ → List PieceData
pieces_at bytes zero at = []
pieces_at bytes (suc n) at = cond (nat_lt at (length bytes)) (piece_data bytes at ∷ pieces_at bytes n (piece_end bytes at)) []

-- each piece is found and tested before the next; the test may look at what came before, of which a state is kept
unfoldable pub walk_says : {S : Type 0} → FaultKind → (S → PieceData → Said) → (S → PieceData → S) → List ℕ → ℕ → S → ℕ → Said
walk_says kind test next bytes zero s at = Ok tt
walk_says kind test next bytes (suc n) s at =
    cond (nat_lt at (length bytes))
    ((piece_says kind bytes at and_then test s (piece_data bytes at)) and_then walk_says kind test next bytes n (next s (piece_data bytes at)) (piece_end bytes at))
    (Ok tt)
