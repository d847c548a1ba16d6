-- Filling the registers of a witness, one piece at a time. One law serves both kinds of records.
use Rattle.std.proofs.Common.{◌≡◌, ℕ, ◌+◌, ◌≤◌, List, [], ◌∷◌, ◌++◌, map, length, drop, Ok, sym, refl, ap, ◌∙◌, append_assoc, arith}
use Rattle.std.proofs.lemmas.List.{length_push, length-map, drop-drop, append-nil}
use Rattle.records.specs.declared.register.Register.{Register}
use Rattle.records.specs.declared.records.Place.{Place}
use Rattle.records.specs.declared.records.Inner.{Inner}
use Rattle.records.specs.declared.shape.Shape.{Shape}
use Rattle.sequences.specs.Admitted.{Roomy, places_added, inners_added, place_count, inner_count}
use Rattle.records.specs.Held.{held, behind, room}
use Rattle.records.specs.Limits.{most_places, most_inners}
use Rattle.records.specs.Records.{PlaceData, InnerData}
use Rattle.formats.specs.Witnesses.{PartData, PlacePart, InnerPart, Progress, further_by, body_by, record_by, places_with, inners_with}
use Rattle.formats.proofs.WitnessParts.{place_room, inner_room}

-- a register that holds the records read so far: with those ahead they are all, they are as many as were noted, and the
-- memory behind them is as it was
pub record Filled {T X : Type 0} (plain : T → X) (all ahead : List X) (noted : List ℕ) (before now : Register T) : Type 0 where
  pub items : map plain (held now) ++ ahead ≡ all
  pub many : length (held now) ≡ length noted
  pub behind_is : behind now ≡ drop (length (held now)) (behind before)
  pub room_is : room now ≡ room before

module _ {T X : Type 0} (plain : T → X) (all : List X) (before : Register T) where
  pub filled_begins : held before ≡ [] → Filled plain all all [] before before
  filled_begins e =
      record {
        items = ap (λ (ts : List T). map plain ts ++ all) e;
        many = ap length e;
        behind_is = sym (ap (λ (k : ℕ). drop k (behind before)) (ap length e));
        room_is = refl;
      }

  -- one record more
  pub filled_more : (ahead : List X) (x : X) (noted : List ℕ) (n : ℕ) (now next : Register T) → Filled plain all (x ∷ ahead) noted before now →
      map plain (held next) ≡ map plain (held now) ++ x ∷ [] → behind next ≡ drop 1 (behind now) → room next ≡ room now → Filled plain all ahead (noted ++ n ∷ []) before next
  filled_more ahead x noted n now next f h b r =
      let k : length (held next) ≡ length (held now) + 1 =
      sym (length-map (held next) plain) ∙ ap length h ∙ length_push (map plain (held now)) x ∙ ap (λ (j : ℕ). j + 1) (length-map (held now) plain) in
      record {
        items = ap (λ (xs : List X). xs ++ ahead) h ∙ append_assoc (map plain (held now)) (x ∷ []) ahead ∙ f.items;
        many = k ∙ ap (λ (j : ℕ). j + 1) f.many ∙ sym (length_push noted n);
        behind_is = b ∙ ap (drop 1) f.behind_is ∙ drop-drop 1 (length (held now)) (behind before) ∙ ap (λ (j : ℕ). drop j (behind before)) (sym k);
        room_is = r ∙ f.room_is;
      }

  -- none more
  pub filled_same : (ahead : List X) (noted : List ℕ) (now next : Register T) → Filled plain all ahead noted before now →
      map plain (held next) ≡ map plain (held now) → behind next ≡ drop 0 (behind now) → room next ≡ room now → Filled plain all ahead noted before next
  filled_same ahead noted now next f h b r =
      let k : length (held next) ≡ length (held now) = sym (length-map (held next) plain) ∙ ap length h ∙ length-map (held now) plain in
      record {
        items = ap (λ (xs : List X). xs ++ ahead) h ∙ f.items;
        many = k ∙ f.many;
        behind_is = b ∙ f.behind_is ∙ ap (λ (j : ℕ). drop j (behind before)) (sym k);
        room_is = r ∙ f.room_is;
      }

  pub filled_done : (noted : List ℕ) (now : Register T) → Filled plain all [] noted before now → map plain (held now) ≡ all
  filled_done noted now f = sym (append-nil (map plain (held now))) ∙ f.items

module _ (shape : Shape) (s : Progress) where
  -- the places after a piece, by its kind
  pub places_after : {T : Type 0} (plain : T → PlaceData) (all xs : List PlaceData) (before now next : Register T) (p : PartData) → Filled plain all (places_with (record_by shape p) xs) s.places before now →
      map plain (held next) ≡ places_added (record_by shape p) (map plain (held now)) → behind next ≡ drop (place_count (record_by shape p)) (behind now) → room next ≡ room now → Filled plain all xs (further_by s p).places before next
  places_after plain all xs before now next (PlacePart d) f h b r = filled_more plain all before xs _ s.places _ now next f h b r
  places_after plain all xs before now next (InnerPart d) f h b r = filled_same plain all before xs s.places now next f h b r

  pub inners_after : {T : Type 0} (plain : T → InnerData) (all ys : List InnerData) (before now next : Register T) (p : PartData) → Filled plain all (inners_with (record_by shape p) ys) s.inners before now →
      map plain (held next) ≡ inners_added (record_by shape p) (map plain (held now)) → behind next ≡ drop (inner_count (record_by shape p)) (behind now) → room next ≡ room now → Filled plain all ys (further_by s p).inners before next
  inners_after plain all ys before now next (PlacePart d) f h b r = filled_same plain all before ys s.inners now next f h b r
  inners_after plain all ys before now next (InnerPart d) f h b r = filled_more plain all before ys _ s.inners _ now next f h b r

  -- a piece that passes finds room
  pub roomy : (places : Register Place) (inners : Register Inner) (p : PartData) → Ok tt ≡ body_by shape s p → length (held places) ≡ length s.places → length (held inners) ≡ length s.inners → most_places ≤ room places → most_inners ≤ room inners → Roomy (record_by shape p) places inners
  roomy places inners (PlacePart d) e h k l m = let q = place_room shape s.places s.inners d.offset d.rest (sym e) in omega (arith, q, h, l)
  roomy places inners (InnerPart d) e h k l m = let q = inner_room shape s.inners d.offset d.rest (sym e) in omega (arith, q, k, m)
