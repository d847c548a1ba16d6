use Rattle.std.proofs.Common.{◌≡◌, ℕ, ◌≤◌, List, map, drop, Ok, Option, sym, refl, ap, ◌∙◌, subst}
use Rattle.std.specs.Option.{option_map}
use Rattle.rows.proofs.Chains.{never}
use Rattle.sequences.specs.declared.witness.LocatedPart.{LocatedPart}
use Rattle.sequences.specs.Admitted.{Roomy, places_added, inners_added, place_count, inner_count}
use Rattle.sequences.specs.Handed.{ReaderData, standing, reader_of, progress_of, located_of, record_of, passed_at}
use Rattle.records.specs.Held.{held, behind}
use Rattle.records.specs.Limits.{most_places, most_inners}
use Rattle.formats.specs.Pieces.{pieces_from}
use Rattle.records.specs.Records.{heading_of, shape_of, PlaceData, InnerData, place_record_of, inner_of}
use Rattle.formats.specs.Walks.{PieceData}
use Rattle.formats.specs.Witnesses.{Progress, RecordData, begun, body_by, record_by, further_by, places_of, inners_of, pieces_of, witness_at}
use Rattle.sequences.proofs.Filling.{Filled, filled_begins, filled_done, places_after, inners_after, roomy}
use Rattle.sequences.proofs.HandedSteps.{Given, some_handed, none_handed, fault_handed, comes_on}
use Rattle.formats.proofs.PieceTests.{given_ok, given_err}
use Rattle.formats.proofs.WalkSteps.{pieces_all}
use Rattle.sequences.proofs.WitnessWalks.{Walking, ahead, walking_begins, walking_lost, walking_passes, walking_more, next_places, next_inners}
use Rattle.sequences.proofs.admission.fill.Goals as goal
use Rattle.sequences.proofs.admission.fill.Goals.{In-Some, In_ok-found, After-keep}

pub loop-piece-init : goal.loop-piece-init
unfolding pieces_of
loop-piece-init c =
    let shape = shape_of (heading_of c.args.heading.now) in
    let bytes = c.args.bytes.now in
    let begins = λ (q : ReaderData) (s : Progress).
    Walking shape bytes q s
    × Filled place_record_of (witness_at shape bytes).places (places_of shape (ahead q)) s.places c.args.places.now c.args.places.now
    × Filled inner_of (witness_at shape bytes).inners (inners_of shape (ahead q)) s.inners c.args.inners.now c.args.inners.now in
    let here : begins (standing bytes pieces_from) begun = (
      walking_begins shape bytes,
      filled_begins place_record_of (witness_at shape bytes).places c.args.places.now c.requires.no_places,
      filled_begins inner_of (witness_at shape bytes).inners c.args.inners.now c.requires.no_inners,
    ) in
    subst (λ (q : ReaderData). begins q (progress_of c.new-noted.result)) (sym c.at_pieces-reader.ensures) (subst (begins (standing bytes pieces_from)) (sym c.new-noted.ensures) here)

module _ (c : In-Some) where
  handed : Given (reader_of c.loop-piece.reader) (located_of c.in-Some.piece)
  handed =
      some_handed (reader_of c.loop-piece.reader) (located_of c.in-Some.piece)
      (ap (λ (o : Option LocatedPart). Ok (option_map located_of o)) (sym c.in-Some.is) ∙ c.in_ok-piece.ensures.handed)

  passes : Ok tt ≡ body_by (shape_of (heading_of c.args.heading.now)) (progress_of c.loop-piece.noted) (located_of c.in-Some.piece)
  passes = walking_passes (shape_of (heading_of c.args.heading.now)) c.args.bytes.now (reader_of c.loop-piece.reader) (progress_of c.loop-piece.noted) c.loop-piece.invariant.0 (located_of c.in-Some.piece) handed c.requires.passed

pub returns-in_err-piece : goal.returns-in_err-piece
returns-in_err-piece c =
    let h = fault_handed (reader_of c.loop-piece.reader) _ c.in_err-piece.ensures.handed in
    never _ (walking_lost (shape_of (heading_of c.args.heading.now)) c.args.bytes.now (reader_of c.loop-piece.reader) (progress_of c.loop-piece.noted) c.loop-piece.invariant.0 _ h.0 h.1 ∙ sym c.requires.passed)

pub returns-in_err-found : goal.returns-in_err-found
returns-in_err-found c =
    let d = (goal.at.returns-in_err-found c).In-Some in
    never _ (given_err _ _ _ c.in_err-found.ensures.answer ∙ sym (passes d))

-- what was read
read : (c : In_ok-found) → record_of c.in_ok-found.found ≡ record_by (shape_of (heading_of c.args.heading.now)) (located_of c.in-Some.piece)
read c = (given_ok _ _ _ c.in_ok-found.ensures.answer).1

pub keep-requires : goal.keep-requires
keep-requires c =
    let d = (goal.at.keep-requires c).In-Some in
    let f = (goal.at.keep-requires c).In_ok-found in
    subst (λ (x : RecordData). Roomy x c.loop-piece.places c.loop-piece.inners) (sym (read f))
    (roomy (shape_of (heading_of c.args.heading.now)) (progress_of c.loop-piece.noted) c.loop-piece.places c.loop-piece.inners (located_of c.in-Some.piece) (passes d) c.loop-piece.invariant.1.many c.loop-piece.invariant.2.many
    (subst (λ (n : ℕ). most_places ≤ n) (sym c.loop-piece.invariant.1.room_is) c.requires.places_room)
    (subst (λ (n : ℕ). most_inners ≤ n) (sym c.loop-piece.invariant.2.room_is) c.requires.inners_room))

pub loop-piece-preserved : goal.loop-piece-preserved
loop-piece-preserved c =
    let d = (goal.at.loop-piece-preserved c).In-Some in
    let f = (goal.at.loop-piece-preserved c).In_ok-found in
    let shape = (shape_of (heading_of c.args.heading.now)) in
    let bytes = c.args.bytes.now in
    let r = reader_of c.loop-piece.reader in
    let s = progress_of c.loop-piece.noted in
    let p = located_of c.in-Some.piece in
    let w = c.loop-piece.invariant.0 in
    let e = read f in
    let after = c.in_ok-found.ensures.after in
    let stands = c.next_located.ensures.stands in
    let xs = places_of shape (ahead (passed_at r)) in
    let ys = inners_of shape (ahead (passed_at r)) in
    let known = λ (q : ReaderData) (t : Progress).
    Walking shape bytes q t
    × Filled place_record_of (witness_at shape bytes).places (places_of shape (ahead q)) t.places c.args.places.now c.keep.new.places
    × Filled inner_of (witness_at shape bytes).inners (inners_of shape (ahead q)) t.inners c.args.inners.now c.keep.new.inners in
    let here : known (passed_at r) (further_by s p) = (
      walking_more shape bytes r s w p (handed d) (passes d),
      places_after shape s place_record_of (witness_at shape bytes).places xs c.args.places.now c.loop-piece.places c.keep.new.places p
          (subst (λ (zs : List PlaceData). Filled place_record_of (witness_at shape bytes).places zs s.places c.args.places.now c.loop-piece.places) (next_places shape bytes r s w p (handed d)) c.loop-piece.invariant.1)
          (c.keep.ensures.places ∙ ap (λ (x : RecordData). places_added x (map place_record_of (held c.loop-piece.places))) e)
          (c.keep.ensures.places_behind ∙ ap (λ (x : RecordData). drop (place_count x) (behind c.loop-piece.places)) e)
          c.keep.ensures.places_room,
      inners_after shape s inner_of (witness_at shape bytes).inners ys c.args.inners.now c.loop-piece.inners c.keep.new.inners p
          (subst (λ (zs : List InnerData). Filled inner_of (witness_at shape bytes).inners zs s.inners c.args.inners.now c.loop-piece.inners) (next_inners shape bytes r s w p (handed d)) c.loop-piece.invariant.2)
          (c.keep.ensures.inners ∙ ap (λ (x : RecordData). inners_added x (map inner_of (held c.loop-piece.inners))) e)
          (c.keep.ensures.inners_behind ∙ ap (λ (x : RecordData). drop (inner_count x) (behind c.loop-piece.inners)) e)
          c.keep.ensures.inners_room,
    ) in
    subst (λ (q : ReaderData). known q (progress_of c.read.new.self)) (sym stands) (subst (known (passed_at r)) (sym after) here)

pub loop-piece-smaller : goal.loop-piece-smaller
loop-piece-smaller c =
    let d = (goal.at.loop-piece-smaller c).In-Some in
    comes_on (reader_of c.loop-piece.reader) (located_of c.in-Some.piece) (handed d) (reader_of c.next_located.new.self) c.next_located.ensures.stands

pub returns : goal.returns
returns c =
    let h = none_handed (reader_of c.loop-piece.reader) (ap (λ (o : Option LocatedPart). Ok (option_map located_of o)) (sym c.in_default.is) ∙ c.in_ok-piece.ensures.handed) in
    let e = pieces_all c.loop-piece.reader.bytes.now c.loop-piece.reader.at h in
    let p = subst (λ (ps : List PieceData). Filled place_record_of (witness_at (shape_of (heading_of c.args.heading.now)) c.args.bytes.now).places (places_of (shape_of (heading_of c.args.heading.now)) ps) (progress_of c.loop-piece.noted).places c.args.places.now c.loop-piece.places) e c.loop-piece.invariant.1 in
    let i = subst (λ (ps : List PieceData). Filled inner_of (witness_at (shape_of (heading_of c.args.heading.now)) c.args.bytes.now).inners (inners_of (shape_of (heading_of c.args.heading.now)) ps) (progress_of c.loop-piece.noted).inners c.args.inners.now c.loop-piece.inners) e c.loop-piece.invariant.2 in
    record {
      passed = refl;
      places = filled_done place_record_of _ c.args.places.now _ _ p;
      places_behind = p.behind_is;
      inners = filled_done inner_of _ c.args.inners.now _ _ i;
      inners_behind = i.behind_is;
    }
