use Rattle.std.proofs.Common.{◌≡◌, Ok, Option, sym, refl, ap, ◌∙◌, subst}
use Rattle.std.proofs.lemmas.Result.{err_from_is_err_and}
use Rattle.std.specs.Option.{option_map}
use Rattle.rows.proofs.Chains.{stops, goes, never}
use Rattle.sequences.specs.declared.witness.LocatedPart.{LocatedPart}
use Rattle.sequences.specs.Handed.{ReaderData, reader_of, progress_of, located_of}
use Rattle.formats.specs.Witnesses.{begun, body_by, further_by, named_in, pieces_of, references_say}
use Rattle.sequences.specs.TableGiven.{shape_in, transitions_in}
use Rattle.sequences.proofs.HandedSteps.{Given, some_handed, none_handed, fault_handed, comes_on}
use Rattle.formats.proofs.WalkSteps.{pieces_all}
use Rattle.sequences.proofs.WitnessWalks.{Walking, ahead, walking_begins, walking_lost, walking_passes, walking_more, next_references, passed_reached}
use Rattle.sequences.proofs.references.references_test.Goals as goal
use Rattle.sequences.proofs.references.references_test.Goals.{In-Some}

pub loop-piece-init : goal.loop-piece-init
unfolding pieces_of
loop-piece-init c =
    let e = c.at_pieces-reader.ensures in
    let n = named_in (transitions_in c.args.table) (progress_of c.args.noted.now) in (
      (begun, subst (λ (q : ReaderData). Walking (shape_in c.args.table) c.args.bytes.now q begun) (sym e) (walking_begins (shape_in c.args.table) c.args.bytes.now)),
      ap (λ (q : ReaderData). references_say (shape_in c.args.table) n (ahead q)) e,
    )

module _ (c : In-Some) where
  handed : Given (reader_of c.loop-piece.reader) (located_of c.in-Some.piece)
  handed =
      some_handed (reader_of c.loop-piece.reader) (located_of c.in-Some.piece)
      (ap (λ (o : Option LocatedPart). Ok (option_map located_of o)) (sym c.in-Some.is) ∙ c.in_ok-piece.ensures.handed)

  passes : Ok tt ≡ body_by (shape_in c.args.table) c.loop-piece.invariant.0.0 (located_of c.in-Some.piece)
  passes = walking_passes (shape_in c.args.table) c.args.bytes.now (reader_of c.loop-piece.reader) c.loop-piece.invariant.0.0 c.loop-piece.invariant.0.1 (located_of c.in-Some.piece) handed c.requires

pub returns-in_err-piece : goal.returns-in_err-piece
returns-in_err-piece c =
    let h = fault_handed (reader_of c.loop-piece.reader) _ c.in_err-piece.ensures.handed in
    never _ (walking_lost (shape_in c.args.table) c.args.bytes.now (reader_of c.loop-piece.reader) c.loop-piece.invariant.0.0 c.loop-piece.invariant.0.1 _ h.0 h.1 ∙ sym c.requires)

pub reference_test-requires : goal.reference_test-requires
reference_test-requires c =
    let d = (goal.at.reference_test-requires c).In-Some in
    passed_reached (shape_in c.args.table) c.loop-piece.invariant.0.0 (reader_of c.loop-piece.reader) (located_of c.in-Some.piece) (handed d) (passes d)

pub returns-in_err-reference_test : goal.returns-in_err-reference_test
returns-in_err-reference_test c =
    let p = err_from_is_err_and c.from_residual-in_err-reference_test.result c.from_residual-in_err-reference_test.ensures.1 in
    let d = (goal.at.returns-in_err-reference_test c).In-Some in
    let n = named_in (transitions_in c.args.table) (progress_of c.args.noted.now) in
    rw (p.1, p.2)
    (stops _ _ _ c.in_err-reference_test.ensures
    ∙ sym (next_references (shape_in c.args.table) c.args.bytes.now (reader_of c.loop-piece.reader) c.loop-piece.invariant.0.0 c.loop-piece.invariant.0.1 (located_of c.in-Some.piece) (handed d) n)
    ∙ c.loop-piece.invariant.1)

pub loop-piece-preserved : goal.loop-piece-preserved
loop-piece-preserved c =
    let d = (goal.at.loop-piece-preserved c).In-Some in
    let n = named_in (transitions_in c.args.table) (progress_of c.args.noted.now) in
    let r = reader_of c.loop-piece.reader in
    let w = walking_more (shape_in c.args.table) c.args.bytes.now r c.loop-piece.invariant.0.0 c.loop-piece.invariant.0.1 (located_of c.in-Some.piece) (handed d) (passes d) in (
      (further_by c.loop-piece.invariant.0.0 (located_of c.in-Some.piece), subst (λ (q : ReaderData). Walking (shape_in c.args.table) c.args.bytes.now q (further_by c.loop-piece.invariant.0.0 (located_of c.in-Some.piece))) (sym c.next_located.ensures.stands) w),
      ap (λ (q : ReaderData). references_say (shape_in c.args.table) n (ahead q)) c.next_located.ensures.stands
          ∙ goes _ _ _ c.in_ok-reference_test.ensures refl
          ∙ sym (next_references (shape_in c.args.table) c.args.bytes.now r c.loop-piece.invariant.0.0 c.loop-piece.invariant.0.1 (located_of c.in-Some.piece) (handed d) n)
          ∙ c.loop-piece.invariant.1,
    )

pub loop-piece-smaller : goal.loop-piece-smaller
loop-piece-smaller c =
    let d = (goal.at.loop-piece-smaller c).In-Some in
    comes_on (reader_of c.loop-piece.reader) (located_of c.in-Some.piece) (handed d) (reader_of c.next_located.new.self) c.next_located.ensures.stands

pub returns : goal.returns
returns c =
    let n = named_in (transitions_in c.args.table) (progress_of c.args.noted.now) in
    let h = none_handed (reader_of c.loop-piece.reader) (ap (λ (o : Option LocatedPart). Ok (option_map located_of o)) (sym c.in_default.is) ∙ c.in_ok-piece.ensures.handed) in
    ap (references_say (shape_in c.args.table) n) (sym (pieces_all c.loop-piece.reader.bytes.now c.loop-piece.reader.at h)) ∙ c.loop-piece.invariant.1
