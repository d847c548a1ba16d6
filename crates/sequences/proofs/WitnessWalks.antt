-- The walk over the pieces of a witness, as the code makes it: what holds before each piece.
use Rattle.std.proofs.Common.{◌≡◌, ℕ, ◌<◌, ◌≤◌, List, ◌∷◌, ◌++◌, map, length, Ok, Err, sym, refl, ap, ◌∙◌, subst, append_assoc, arith}
use Rattle.std.proofs.lemmas.List.{append-nil}
use Rattle.rows.specs.declared.fault.Fault.{Fault}
use Rattle.rows.specs.declared.fault.FaultKind.TheVariants.{WitnessLength}
use Rattle.rows.specs.Faults.{Said, ◌and_then◌}
use Rattle.rows.proofs.Chains.{stops, goes, both}
use Rattle.records.specs.declared.shape.Shape.{Shape}
use Rattle.sequences.specs.Handed.{ReaderData, standing, part_found, passed_at}
use Rattle.formats.specs.Pieces.{pieces_from, piece_end, piece_says}
use Rattle.records.specs.Records.{PlaceData, InnerData}
use Rattle.formats.specs.Walks.{PieceData, piece_data, left, pieces_at, walk_says}
use Rattle.formats.specs.Witnesses.{PartData, PlacePart, InnerPart, Progress, Named, begun, further, further_by, part_of, kind_says, part_says, body_by, record_by, places_with, inners_with, places_of, inners_of, pieces_of, pieces_say, witness_at, numbers_in, reference_by, references_say}
use Rattle.sequences.specs.TableGiven.{Reached}
use Rattle.sequences.proofs.HandedSteps.{Given, part_is}
use Rattle.sequences.proofs.RecordsSame.{same_progress}
use Rattle.formats.proofs.WitnessParts.{place_plan, kind_reaches}
use Rattle.formats.proofs.WalkSteps.{pieces_more, pieces_all, walk_fault, walk_more, walk_all, walk_step}

grouped : (a b c : Said) → ((a and_then b) and_then c) ≡ (a and_then b and_then c)
grouped (Ok tt) b c = refl
grouped (Err f) b c = refl

-- the pieces still to come
abbrev pub ahead : ReaderData → List PieceData
ahead r = pieces_at r.bytes (left r.bytes r.at) r.at

module _ (shape : Shape) (bytes : List ℕ) where
  -- the reader stands before a piece, and the progress is that of the pieces before it
  pub record Walking (r : ReaderData) (s : Progress) : Type 0 where
    pub same : r.bytes ≡ bytes
    pub walk : walk_says WitnessLength (part_says shape) further r.bytes (left r.bytes r.at) s r.at ≡ pieces_say shape bytes
    pub places : s.places ++ map (λ (p : PlaceData). p.number) (places_of shape (ahead r)) ≡ (numbers_in (witness_at shape bytes)).places
    pub inners : s.inners ++ map (λ (i : InnerData). i.number) (inners_of shape (ahead r)) ≡ (numbers_in (witness_at shape bytes)).inners

  pub walking_begins : Walking (standing bytes pieces_from) begun
  unfolding pieces_say pieces_of
  walking_begins = record { same = refl; walk = refl; places = refl; inners = refl }

  module _ (r : ReaderData) (s : Progress) (w : Walking r s) where
    pub walking_lost : (f : Fault) → r.at < length r.bytes → Err f ≡ part_found r → Err f ≡ pieces_say shape bytes
    walking_lost f l e =
        walk_fault r.bytes WitnessLength (part_says shape) further s r.at f l (stops _ (body_by shape s (part_of (piece_data r.bytes r.at))) _ e ∙ grouped (piece_says WitnessLength r.bytes r.at) (kind_says (piece_data r.bytes r.at)) (body_by shape s (part_of (piece_data r.bytes r.at))))
        ∙ w.walk

    pub walking_done : length r.bytes ≤ r.at → (Ok tt ≡ pieces_say shape bytes) × (s ≡ numbers_in (witness_at shape bytes))
    walking_done l =
        let e = pieces_all r.bytes r.at l in (
          walk_all r.bytes WitnessLength (part_says shape) further s r.at l ∙ w.walk,
          same_progress
              (sym (append-nil s.places) ∙ ap (λ (ps : List PieceData). s.places ++ map (λ (p : PlaceData). p.number) (places_of shape ps)) (sym e) ∙ w.places)
              (sym (append-nil s.inners) ∙ ap (λ (ps : List PieceData). s.inners ++ map (λ (i : InnerData). i.number) (inners_of shape ps)) (sym e) ∙ w.inners),
        )

    module _ (p : PartData) (g : Given r p) where
      whole : (x : Said) → x ≡ body_by shape s p → x ≡ (piece_says WitnessLength r.bytes r.at and_then part_says shape s (piece_data r.bytes r.at))
      whole x e =
          goes (part_found r) (body_by shape s (part_of (piece_data r.bytes r.at))) x g.found (e ∙ ap (body_by shape s) g.part)
          ∙ grouped (piece_says WitnessLength r.bytes r.at) (kind_says (piece_data r.bytes r.at)) (body_by shape s (part_of (piece_data r.bytes r.at)))

      pub walking_refused : (f : Fault) → Err f ≡ body_by shape s p → Err f ≡ pieces_say shape bytes
      walking_refused f e = walk_fault r.bytes WitnessLength (part_says shape) further s r.at f g.begins (whole (Err f) e) ∙ w.walk

      -- the pieces ahead are this one and those behind it
      pub next_piece : ahead r ≡ piece_data r.bytes r.at ∷ ahead (passed_at r)
      next_piece = pieces_more r.bytes r.at g.begins ∙ ap (λ (q : ReaderData). piece_data r.bytes r.at ∷ ahead q) (sym g.stands)

      pub next_places : places_of shape (ahead r) ≡ places_with (record_by shape p) (places_of shape (ahead (passed_at r)))
      next_places = ap (places_of shape) next_piece ∙ ap (λ (q : PartData). places_with (record_by shape q) (places_of shape (ahead (passed_at r)))) (sym g.part)

      pub next_inners : inners_of shape (ahead r) ≡ inners_with (record_by shape p) (inners_of shape (ahead (passed_at r)))
      next_inners = ap (inners_of shape) next_piece ∙ ap (λ (q : PartData). inners_with (record_by shape q) (inners_of shape (ahead (passed_at r)))) (sym g.part)

      pub walking_more : Ok tt ≡ body_by shape s p → Walking (passed_at r) (further_by s p)
      walking_more e =
          record {
            same = ap (λ (q : ReaderData). q.bytes) g.stands ∙ w.same;
            walk =
                ap (λ (q : ReaderData). walk_says WitnessLength (part_says shape) further q.bytes (left q.bytes q.at) (further_by s p) q.at) g.stands
                ∙ ap (λ (q : PartData). walk_says WitnessLength (part_says shape) further r.bytes (left r.bytes (piece_end r.bytes r.at)) (further_by s q) (piece_end r.bytes r.at)) g.part
                ∙ walk_more r.bytes WitnessLength (part_says shape) further s r.at g.begins (whole (Ok tt) e)
                ∙ w.walk;
            places = placed p (places_of shape (ahead (passed_at r))) ∙ ap (λ (xs : List PlaceData). s.places ++ map (λ (x : PlaceData). x.number) xs) (sym next_places) ∙ w.places;
            inners = declared p (inners_of shape (ahead (passed_at r))) ∙ ap (λ (ys : List InnerData). s.inners ++ map (λ (y : InnerData). y.number) ys) (sym next_inners) ∙ w.inners;
          }
        where
          placed : (q : PartData) (xs : List PlaceData) → (further_by s q).places ++ map (λ (x : PlaceData). x.number) xs ≡ s.places ++ map (λ (x : PlaceData). x.number) (places_with (record_by shape q) xs)
          placed (PlacePart d) xs = append_assoc s.places _ (map (λ (x : PlaceData). x.number) xs)
          placed (InnerPart d) xs = refl

          declared : (q : PartData) (ys : List InnerData) → (further_by s q).inners ++ map (λ (y : InnerData). y.number) ys ≡ s.inners ++ map (λ (y : InnerData). y.number) (inners_with (record_by shape q) ys)
          declared (PlacePart d) ys = refl
          declared (InnerPart d) ys = append_assoc s.inners _ (map (λ (y : InnerData). y.number) ys)

      -- where the whole walk passes, so does this piece
      pub walking_passes : Ok tt ≡ pieces_say shape bytes → Ok tt ≡ body_by shape s p
      walking_passes o =
          let e = o ∙ sym w.walk ∙ walk_step r.bytes WitnessLength (part_says shape) further s r.at g.begins in
          let h = (both (piece_says WitnessLength r.bytes r.at and_then part_says shape s (piece_data r.bytes r.at)) _ (sym e)).0 in
          let k = (both (piece_says WitnessLength r.bytes r.at) (part_says shape s (piece_data r.bytes r.at)) h).1 in
          sym (both (kind_says (piece_data r.bytes r.at)) (body_by shape s (part_of (piece_data r.bytes r.at))) k).1 ∙ ap (body_by shape s) (sym g.part)

      pub next_references : (named : Named) → references_say shape named (ahead r) ≡ (reference_by shape named p and_then references_say shape named (ahead (passed_at r)))
      next_references named = ap (references_say shape named) next_piece ∙ ap (λ (q : PartData). reference_by shape named q and_then references_say shape named (ahead (passed_at r))) (sym g.part)

-- a piece that has passed reaches its references
pub passed_reached : (shape : Shape) (s : Progress) (r : ReaderData) (p : PartData) → Given r p → Ok tt ≡ body_by shape s p → Reached shape p
passed_reached shape s r (PlacePart d) g e =
    let k = (place_plan shape s.places s.inners d.offset d.rest (sym e)).2 in
    omega (arith, k)
passed_reached shape s r (InnerPart d) g e =
    let f = (both (piece_says WitnessLength r.bytes r.at) (kind_says (piece_data r.bytes r.at)) (sym g.found)).1 in
    subst (λ (q : PieceData). 1 ≤ length q.rest) (sym (part_is r (InnerPart d) g)) (kind_reaches (piece_data r.bytes r.at) f)
