use Rattle.std.proofs.Common.{map, drop, sym, refl, ap, ◌∙◌, subst}
use Rattle.std.proofs.lemmas.List.{map_push}
use Rattle.sequences.specs.Admitted.{Roomy, places_added, inners_added, place_count, inner_count}
use Rattle.sequences.specs.Handed.{record_of}
use Rattle.records.specs.Held.{held, behind}
use Rattle.records.specs.Records.{place_record_of, inner_of}
use Rattle.formats.specs.Witnesses.{RecordData}
use Rattle.records.proofs.Fronts.{took_held}
use Rattle.sequences.proofs.admission.keep.Goals as goal

pub returns-in-Listed : goal.returns-in-Listed
returns-in-Listed c =
    let e = ap record_of (sym c.in-Listed.is) in
    let r = subst (λ (x : RecordData). Roomy x c.args.places.now c.args.inners.now) (sym e) c.requires in
    let h = took_held _ _ _ _ _ _ c.push.ensures.took r c.push.ensures.held in
    let b = took_held _ _ _ _ _ _ c.push.ensures.took r c.push.ensures.behind in
    record {
      places = ap (map place_record_of) h ∙ map_push place_record_of (held c.args.places.now) c.in-Listed.place ∙ ap (λ (x : RecordData). places_added x (map place_record_of (held c.args.places.now))) e;
      places_behind = b ∙ ap (λ (x : RecordData). drop (place_count x) (behind c.args.places.now)) e;
      places_room = c.push.ensures.room;
      inners = ap (λ (x : RecordData). inners_added x (map inner_of (held c.args.inners.now))) e;
      inners_behind = ap (λ (x : RecordData). drop (inner_count x) (behind c.args.inners.now)) e;
      inners_room = refl;
    }

pub returns-in-Declared : goal.returns-in-Declared
returns-in-Declared c =
    let e = ap record_of (sym c.in-Declared.is) in
    let r = subst (λ (x : RecordData). Roomy x c.args.places.now c.args.inners.now) (sym e) c.requires in
    let h = took_held _ _ _ _ _ _ c.push-in-Declared.ensures.took r c.push-in-Declared.ensures.held in
    let b = took_held _ _ _ _ _ _ c.push-in-Declared.ensures.took r c.push-in-Declared.ensures.behind in
    record {
      places = ap (λ (x : RecordData). places_added x (map place_record_of (held c.args.places.now))) e;
      places_behind = ap (λ (x : RecordData). drop (place_count x) (behind c.args.places.now)) e;
      places_room = refl;
      inners = ap (map inner_of) h ∙ map_push inner_of (held c.args.inners.now) c.in-Declared.inner ∙ ap (λ (x : RecordData). inners_added x (map inner_of (held c.args.inners.now))) e;
      inners_behind = b ∙ ap (λ (x : RecordData). drop (inner_count x) (behind c.args.inners.now)) e;
      inners_room = c.push-in-Declared.ensures.room;
    }
