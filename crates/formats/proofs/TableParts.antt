-- What the tests of a table tell of its parts.
use Rattle.std.proofs.Common.{◌≡◌, ℕ, ◌≤◌, List, length, Ok}
use Rattle.rows.specs.declared.fault.FaultKind.TheVariants.{TableLength}
use Rattle.rows.proofs.Chains.{both}
use Rattle.records.specs.Limits.{most_transitions}
use Rattle.formats.specs.Pieces.{pieces_from, piece_end, piece_says}
use Rattle.formats.specs.Tables.{heading_shape, heading_rest, heading_says, transitions_say, content_says}
use Rattle.formats.proofs.PieceTests.{found_ends}

pub record Parts (bytes : List ℕ) : Type 0 where
  pub ends : piece_end bytes pieces_from ≤ length bytes
  pub heading : heading_says pieces_from (heading_rest bytes) ≡ Ok tt
  pub transitions : transitions_say (heading_shape (heading_rest bytes)) bytes most_transitions 0 (piece_end bytes pieces_from) ≡ Ok tt

pub content_parts : (bytes : List ℕ) → content_says bytes ≡ Ok tt → Parts bytes
unfolding content_says
content_parts bytes e =
    let p = both (piece_says TableLength bytes pieces_from) _ e in
    let h = both (heading_says pieces_from (heading_rest bytes)) (transitions_say (heading_shape (heading_rest bytes)) bytes most_transitions 0 (piece_end bytes pieces_from)) p.1 in
    record { ends = found_ends TableLength bytes pieces_from p.0; heading = h.0; transitions = h.1 }
