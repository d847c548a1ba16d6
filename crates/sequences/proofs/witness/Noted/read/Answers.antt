use Rattle.std.proofs.Common.{ℕ, [], ◌∷◌, ◌++◌, sym, refl, ap, ◌∙◌}
use Rattle.records.specs.declared.shape.Shape.{Shape}
use Rattle.records.specs.Bounded.{listed}
use Rattle.sequences.specs.Handed.{located_of, progress_of}
use Rattle.formats.specs.Pieces.{giving}
use Rattle.records.specs.Records.{PlaceData, InnerData}
use Rattle.formats.specs.Witnesses.{PartData, PlaceRecord, InnerRecord, body_by, record_by, further_by}
use Rattle.records.proofs.Fronts.{took_held}
use Rattle.formats.proofs.PieceTests.{given, given_ok}
use Rattle.sequences.proofs.RecordsSame.{same_progress}
use Rattle.formats.proofs.WitnessParts.{place_room, inner_room}
use Rattle.sequences.proofs.witness.Noted.read.Goals as goal

pub returns-in_ok-place-in-Place : goal.returns-in_ok-place-in-Place
returns-in_ok-place-in-Place c =
    let o = given_ok _ _ _ c.in_ok-place-in-Place.ensures in
    let e = ap located_of (sym c.in-Place.is) in
    let r = place_room c.shape-shape.result _ _ _ _ (sym o.0) in
    let l = took_held _ _ _ _ _ _ c.push.ensures.took r c.push.ensures.listed in
    record {
      answer = given _ _ _ o.0 (ap (λ (x : PlaceData). PlaceRecord x) o.1) ∙ ap (λ (p : PartData). giving (body_by c.shape-shape.result (progress_of c.args.self.now) p) (record_by c.shape-shape.result p)) e ∙ ap (λ (z : Shape). giving (body_by z (progress_of c.args.self.now) (located_of c.args.piece)) (record_by z (located_of c.args.piece))) c.shape-shape.ensures;
      after = same_progress (l ∙ ap (λ (n : ℕ). listed c.args.self.now.places ++ n ∷ []) (ap (λ (x : PlaceData). x.number) o.1)) refl ∙ ap (further_by (progress_of c.args.self.now)) e;
    }

pub returns-in_ok-inner-in-Transition : goal.returns-in_ok-inner-in-Transition
returns-in_ok-inner-in-Transition c =
    let o = given_ok _ _ _ c.in_ok-inner-in-Transition.ensures in
    let e = ap located_of (sym c.in-Transition.is) in
    let r = inner_room c.shape-shape.result _ _ _ (sym o.0) in
    let l = took_held _ _ _ _ _ _ c.push-in-Transition.ensures.took r c.push-in-Transition.ensures.listed in
    record {
      answer = given _ _ _ o.0 (ap (λ (x : InnerData). InnerRecord x) o.1) ∙ ap (λ (p : PartData). giving (body_by c.shape-shape.result (progress_of c.args.self.now) p) (record_by c.shape-shape.result p)) e ∙ ap (λ (z : Shape). giving (body_by z (progress_of c.args.self.now) (located_of c.args.piece)) (record_by z (located_of c.args.piece))) c.shape-shape.ensures;
      after = same_progress refl (l ∙ ap (λ (n : ℕ). listed c.args.self.now.inners ++ n ∷ []) (ap (λ (x : InnerData). x.number) o.1)) ∙ ap (further_by (progress_of c.args.self.now)) e;
    }
