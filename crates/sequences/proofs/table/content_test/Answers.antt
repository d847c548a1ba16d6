use Rattle.std.proofs.Common.{◌≡◌, ℕ, Ok, ap, ◌∙◌}
use Rattle.std.proofs.lemmas.Result.{err_from_is_err_and}
use Rattle.rows.proofs.Chains.{stops, goes}
use Rattle.records.specs.declared.shape.Shape.{Shape}
use Rattle.records.specs.Limits.{most_transitions}
use Rattle.formats.specs.Pieces.{pieces_from, piece_end}
use Rattle.records.specs.Records.{heading_of, shape_of}
use Rattle.formats.specs.Tables.{heading_shape, heading_rest, heading_at, heading_says, transitions_say, content_says, table_at}
use Rattle.formats.proofs.PieceTests.{given, given_fault, given_ok, given_err}
use Rattle.sequences.proofs.table.content_test.Goals as goal
use Rattle.sequences.specs.TransitionsHanded.{reading_of, coming_say}
use Rattle.sequences.proofs.table.content_test.Goals.{After-new}

pub returns-in_err-piece : goal.returns-in_err-piece
unfolding content_says
returns-in_err-piece c =
    let p = err_from_is_err_and c.from_residual.result c.from_residual.ensures.1 in
    rw (p.1, p.2) (given_fault _ _ _ (stops _ _ _ c.in_err-piece.ensures))

pub returns-in_err-heading : goal.returns-in_err-heading
unfolding content_says
returns-in_err-heading c =
    let p = err_from_is_err_and c.from_residual-in_err-heading.result c.from_residual-in_err-heading.ensures.1 in
    let i = c.in_ok-piece.ensures in
    let h = given_err _ _ _ c.in_err-heading.ensures ∙ ap (λ (o : ℕ). heading_says o c.in_ok-piece.piece.rest.now) i.1.offset ∙ ap (heading_says pieces_from) i.1.rest in
    rw (p.1, p.2) (given_fault _ _ _ (goes _ _ _ i.0 (stops _ _ _ h)))

-- the heading that was read, and the test of the transitions, in the words of the definition
module _ (c : After-new) where
  tested : Ok tt ≡ heading_says pieces_from (heading_rest c.args.bytes.now)
  tested =
      let i = c.in_ok-piece.ensures in
      (given_ok _ _ _ c.in_ok-heading.ensures).0 ∙ ap (λ (o : ℕ). heading_says o c.in_ok-piece.piece.rest.now) i.1.offset ∙ ap (heading_says pieces_from) i.1.rest

  read : heading_of c.in_ok-heading.heading ≡ heading_at (heading_rest c.args.bytes.now)
  read = (given_ok _ _ _ c.in_ok-heading.ensures).1 ∙ ap heading_at c.in_ok-piece.ensures.1.rest

  tests : coming_say (reading_of c.new.result) ≡ transitions_say (heading_shape (heading_rest c.args.bytes.now)) c.args.bytes.now most_transitions 0 (piece_end c.args.bytes.now pieces_from)
  tests = ap coming_say c.new.ensures ∙ ap (λ (z : Shape). transitions_say z c.args.bytes.now most_transitions 0 (piece_end c.args.bytes.now pieces_from)) (ap shape_of read)

pub returns-in_err-transitions_test : goal.returns-in_err-transitions_test
unfolding content_says
returns-in_err-transitions_test c =
    let p = err_from_is_err_and c.from_residual-in_err-transitions_test.result c.from_residual-in_err-transitions_test.ensures.1 in
    let d = (goal.at.returns-in_err-transitions_test c).After-new in
    rw (p.1, p.2) (given_fault _ _ _ (goes _ _ _ c.in_ok-piece.ensures.0 (goes _ _ _ (tested d) (c.in_err-transitions_test.ensures ∙ tests d))))

pub returns : goal.returns
unfolding content_says table_at
returns c =
    let d = (goal.at.returns c).After-new in
    given _ _ _ (goes _ _ _ c.in_ok-piece.ensures.0 (goes _ _ _ (tested d) (c.in_ok-transitions_test.ensures ∙ tests d))) (read d)
