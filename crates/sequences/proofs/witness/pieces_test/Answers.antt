use Rattle.std.proofs.Common.{Ok, Option, sym, ap, ◌∙◌, subst}
use Rattle.std.proofs.lemmas.Result.{err_from_is_err_and}
use Rattle.std.specs.Option.{option_map}
use Rattle.sequences.specs.declared.witness.LocatedPart.{LocatedPart}
use Rattle.sequences.specs.Handed.{ReaderData, standing, reader_of, progress_of, located_of, passed_at}
use Rattle.formats.specs.Pieces.{pieces_from}
use Rattle.records.specs.Records.{heading_of, shape_of}
use Rattle.sequences.proofs.HandedSteps.{Given, some_handed, none_handed, fault_handed, comes_on}
use Rattle.formats.proofs.PieceTests.{given, given_fault, given_ok, given_err}
use Rattle.sequences.proofs.WitnessWalks.{Walking, walking_begins, walking_lost, walking_done, walking_refused, walking_more}
use Rattle.sequences.proofs.witness.pieces_test.Goals as goal
use Rattle.sequences.proofs.witness.pieces_test.Goals.{In-Some}

pub loop-piece-init : goal.loop-piece-init
loop-piece-init c =
    subst (λ (q : ReaderData). Walking (shape_of (heading_of c.args.heading.now)) c.args.bytes.now q (progress_of c.new-noted.result)) (sym c.at_pieces-reader.ensures)
    (subst (Walking (shape_of (heading_of c.args.heading.now)) c.args.bytes.now (standing c.args.bytes.now pieces_from)) (sym c.new-noted.ensures) (walking_begins (shape_of (heading_of c.args.heading.now)) c.args.bytes.now))

module _ (c : In-Some) where
  handed : Given (reader_of c.loop-piece.reader) (located_of c.in-Some.piece)
  handed =
      some_handed (reader_of c.loop-piece.reader) (located_of c.in-Some.piece)
      (ap (λ (o : Option LocatedPart). Ok (option_map located_of o)) (sym c.in-Some.is) ∙ c.in_ok-piece.ensures.handed)

pub returns-in_err-piece : goal.returns-in_err-piece
returns-in_err-piece c =
    let p = err_from_is_err_and c.from_residual.result c.from_residual.ensures.1 in
    let h = fault_handed (reader_of c.loop-piece.reader) _ c.in_err-piece.ensures.handed in
    rw (p.1, p.2) (given_fault _ _ _ (walking_lost (shape_of (heading_of c.args.heading.now)) c.args.bytes.now (reader_of c.loop-piece.reader) (progress_of c.loop-piece.noted) c.loop-piece.invariant _ h.0 h.1))

pub returns-in_err-read : goal.returns-in_err-read
returns-in_err-read c =
    let p = err_from_is_err_and c.from_residual-in_err-read.result c.from_residual-in_err-read.ensures.1 in
    let d = (goal.at.returns-in_err-read c).In-Some in
    rw (p.1, p.2) (given_fault _ _ _ (walking_refused (shape_of (heading_of c.args.heading.now)) c.args.bytes.now (reader_of c.loop-piece.reader) (progress_of c.loop-piece.noted) c.loop-piece.invariant (located_of c.in-Some.piece) (handed d) _ (given_err _ _ _ c.in_err-read.ensures.answer)))

pub loop-piece-preserved : goal.loop-piece-preserved
loop-piece-preserved c =
    let d = (goal.at.loop-piece-preserved c).In-Some in
    let m = walking_more (shape_of (heading_of c.args.heading.now)) c.args.bytes.now (reader_of c.loop-piece.reader) (progress_of c.loop-piece.noted) c.loop-piece.invariant (located_of c.in-Some.piece) (handed d) (given_ok _ _ _ c.in_ok-read.ensures.answer).0 in
    subst (λ (q : ReaderData). Walking (shape_of (heading_of c.args.heading.now)) c.args.bytes.now q (progress_of c.read.new.self)) (sym c.next_located.ensures.stands)
    (subst (Walking (shape_of (heading_of c.args.heading.now)) c.args.bytes.now (passed_at (reader_of c.loop-piece.reader))) (sym c.in_ok-read.ensures.after) m)

pub loop-piece-smaller : goal.loop-piece-smaller
loop-piece-smaller c =
    let d = (goal.at.loop-piece-smaller c).In-Some in
    comes_on (reader_of c.loop-piece.reader) (located_of c.in-Some.piece) (handed d) (reader_of c.next_located.new.self) c.next_located.ensures.stands

pub returns : goal.returns
returns c =
    let n = none_handed (reader_of c.loop-piece.reader) (ap (λ (o : Option LocatedPart). Ok (option_map located_of o)) (sym c.in_default.is) ∙ c.in_ok-piece.ensures.handed) in
    let w = walking_done (shape_of (heading_of c.args.heading.now)) c.args.bytes.now (reader_of c.loop-piece.reader) (progress_of c.loop-piece.noted) c.loop-piece.invariant n in
    given _ _ _ w.0 w.1
