-- A witness and its bytes, both ways: a valid witness is read back from its bytes, and what is read is valid and stands in
-- no other bytes.
use Rattle.std.proofs.Common.{◌≡◌, ℕ, ◌+◌, ◌-◌, ◌<◌, ◌≤◌, true, ◌&&◌, eqb, leb, List, [], ◌∷◌, ◌++◌, map, length, drop, Some, None, Ok, Option, unwrap_or, sym, refl, ap, ◌∙◌, subst, inl, inr, arith}
use Rattle.std.proofs.lemmas.List.{append_assoc, drop_at, drop_more, length_push}
use Rattle.std.proofs.lemmas.Bool.{false≢true, cases_lt, le-leb, eq-eqb, leb-true, eqb-true, eqb-false, and_parts, and_from, cond_both}
use Rattle.std.specs.List.{AllByRecursion}
use Rattle.rows.specs.declared.fault.FaultKind.TheVariants.{WitnessVersion, WitnessLength, WitnessCount, WitnessReference}
use Rattle.rows.specs.Bytes.{word_at}
use Rattle.rows.proofs.Chains.{both, check_true}
use Rattle.records.specs.declared.shape.Shape.{Shape}
use Rattle.records.specs.Limits.{most_places, most_inners}
use Rattle.records.specs.Lists.{first, at, first_with, among}
use Rattle.records.specs.Records.{TransitionData, PlaceData, InnerData, WitnessData}
use Rattle.formats.specs.Exact.{WitnessExactly}
use Rattle.formats.specs.Pieces.{byte_at, fault_at, rest_from, version, pieces_from, reach_says, count_says, version_says}
use Rattle.formats.specs.Valid.{Rising, ShapeWithin, ValidPlace, ValidInner, Transition-is, place_numbers, inner_numbers, EntryFits, PlanFits, InnerFits, ValidWitness}
use Rattle.formats.specs.Walks.{PieceData, left}
use Rattle.formats.specs.Witnesses.{last_of, place_kind, inner_kind, kind_from, number_from, is_place, plan_from, entries, entry_stride, entry_from, entry_at, place_at, inner_at, kind_says, PlacePart, InnerPart, part_of, Progress, begun, further_by, further, body_by, part_says, record_by, places_with, inners_with, places_of, inners_of, pieces_of, pieces_say, witness_at, numbers_in, Named, starts_at, entry_fits, joins_listed, inner_fits, entry_test, plan_says, reference_by, references_say, number_of, named_in, content_says, witness_says, read_witness}
use Rattle.formats.specs.Writing.{AreBytes, joined, piece_bytes, place_bytes, inner_bytes, witness_bytes}
use Rattle.formats.proofs.FieldTests.{passes_then, check_passes, reach_passes, count_passes, count_passed}
use Rattle.formats.proofs.PieceTests.{given, given_ok}
use Rattle.formats.proofs.PiecesWritten.{each_piece, Chain, walk_each, walk_chain, chain_walk, chain_pieces, chain_bytes, chain_joined, pieces_for, written_chain, PlaceTests, InnerTests, place_tests, place_passes, inner_tests, inner_passes, all_each, each_all, place_valid, place_only, inner_valid, inner_only, place_back, place_number_lem, written_tests, inner_back, inner_number, written_inner_tests}
use Rattle.formats.proofs.RowsWritten.{each_pass, each_passed}

-- the last of some numbers
last_push : (xs : List ℕ) (n : ℕ) → last_of (xs ++ n ∷ []) ≡ n
last_push xs n =
    let l = length_push xs n in
    let k : length (xs ++ n ∷ []) - 1 ≡ length xs = omega (arith, l) in
    ap (λ (i : ℕ). unwrap_or (at i (xs ++ n ∷ [])) 0) k ∙ ap (λ (ys : List ℕ). unwrap_or (first ys) 0) (drop_at xs (n ∷ []) (length xs) refl)

-- what is read from some pieces, behind the numbers so far
record Held (shape : Shape) (s : Progress) (places : List PlaceData) (inners : List InnerData) (bytes : List ℕ) : Type 0 where
  pub places_valid : AllByRecursion (ValidPlace shape) places
  pub inners_valid : AllByRecursion (ValidInner shape) inners
  pub places_rising : Rising (last_of s.places) (map (λ p. p.number) places)
  pub inners_rising : Rising (last_of s.inners) (map (λ x. x.number) inners)
  pub place_count_lem : length s.places + length places ≤ most_places
  pub inner_count_lem : length s.inners + length inners ≤ most_inners
  pub no_place : 0 < length s.inners → places ≡ []
  pub written : bytes ≡ joined (λ p. piece_bytes (place_bytes shape p)) places ++ joined (λ x. piece_bytes (inner_bytes shape x)) inners

-- one place more in front
held_place : (shape : Shape) (s : Progress) (p : PieceData) → ShapeWithin shape → AreBytes p.rest → byte_at p.rest kind_from ≡ place_kind → PlaceTests shape s.places s.inners p.offset p.rest
    → (places : List PlaceData) (inners : List InnerData) (bytes : List ℕ) → Held shape (further_by s (PlacePart p)) places inners bytes
    → Held shape s (place_at shape p.rest ∷ places) inners (piece_bytes p.rest ++ bytes)
held_place shape s p w bs k t places inners bytes h =
    let P : List ℕ = joined (λ x. piece_bytes (place_bytes shape x)) places in
    let I : List ℕ = joined (λ x. piece_bytes (inner_bytes shape x)) inners in
    record {
      places_valid = (place_valid shape w s.places s.inners p.offset p.rest bs t, h.places_valid);
      inners_valid = h.inners_valid;
      places_rising = (t.above, subst (λ (n : ℕ). Rising n (map (λ x. x.number) places)) (last_push s.places (number_of p)) h.places_rising);
      inners_rising = h.inners_rising;
      place_count_lem = let l = length_push s.places (number_of p) in let c = h.place_count_lem in omega (arith, l, c);
      inner_count_lem = h.inner_count_lem;
      no_place = λ l. absurd (let z = t.before_inners in omega (arith, z, l));
      written =
          ap (λ (x : List ℕ). piece_bytes x ++ bytes) (sym (place_only shape w s.places s.inners p.offset p.rest bs t k))
          ∙ ap (λ (x : List ℕ). piece_bytes (place_bytes shape (place_at shape p.rest)) ++ x) h.written
          ∙ sym (append_assoc (piece_bytes (place_bytes shape (place_at shape p.rest))) P I);
    }

-- one inner transition more in front
held_inner : (shape : Shape) (s : Progress) (p : PieceData) → ShapeWithin shape → AreBytes p.rest → byte_at p.rest kind_from ≡ inner_kind → InnerTests shape s.inners p.offset p.rest
    → (places : List PlaceData) (inners : List InnerData) (bytes : List ℕ) → Held shape (further_by s (InnerPart p)) places inners bytes
    → Held shape s places (inner_at shape p.rest ∷ inners) (piece_bytes p.rest ++ bytes)
held_inner shape s p w bs k t places inners bytes h =
    let I : List ℕ = joined (λ x. piece_bytes (inner_bytes shape x)) inners in
    let l = length_push s.inners (number_of p) in
    let z : places ≡ [] = h.no_place (omega (arith, l)) in
    let c = h.inner_count_lem in
    record {
      places_valid = h.places_valid;
      inners_valid = (inner_valid shape w s.inners p.offset p.rest bs t, h.inners_valid);
      places_rising = h.places_rising;
      inners_rising = (t.above, subst (λ (n : ℕ). Rising n (map (λ x. x.number) inners)) (last_push s.inners (number_of p)) h.inners_rising);
      place_count_lem = h.place_count_lem;
      inner_count_lem = omega (arith, l, c);
      no_place = λ _. z;
      written =
          ap (λ (x : List ℕ). piece_bytes x ++ bytes) (sym (inner_only shape w s.inners p.offset p.rest bs t k))
          ∙ ap (λ (x : List ℕ). piece_bytes (inner_bytes shape (inner_at shape p.rest)) ++ x) (h.written ∙ ap (λ (ps : List PlaceData). joined (λ x. piece_bytes (place_bytes shape x)) ps ++ I) z)
          ∙ ap (λ (ps : List PlaceData). joined (λ x. piece_bytes (place_bytes shape x)) ps ++ (piece_bytes (inner_bytes shape (inner_at shape p.rest)) ++ I)) (sym z);
    }

-- the kind of a piece that passes
kind_within : (p : PieceData) → kind_says p ≡ Ok tt → (place_kind ≤ byte_at p.rest kind_from) × (byte_at p.rest kind_from ≤ inner_kind)
unfolding kind_says
kind_within p e =
    count_passed WitnessCount p.offset p.rest kind_from place_kind inner_kind
    (both (reach_says WitnessLength p.offset p.rest (kind_from + 1)) (count_says WitnessCount p.offset p.rest kind_from place_kind inner_kind) e).1

-- so many numbers so far
abbrev Counted : Progress → Type 0
Counted s = (length s.places ≤ most_places) × (length s.inners ≤ most_inners)

counted_further : (shape : Shape) (s : Progress) (p : PieceData) → Counted s → body_by shape s (part_of p) ≡ Ok tt → Counted (further s p)
counted_further shape s p c e =
    cond_both (is_place p) (PlacePart p) (InnerPart p) (λ x. body_by shape s x ≡ Ok tt → Counted (further_by s x))
    (λ _ h. let r = (place_tests shape s.places s.inners p.offset p.rest h).room in let l = length_push s.places (number_of p) in (omega arith, c.1))
    (λ _ h. let r = (inner_tests shape s.inners p.offset p.rest h).room in let l = length_push s.inners (number_of p) in (c.0, omega arith))
    e

-- what is read from pieces that pass
held_part : (shape : Shape) (s : Progress) (p : PieceData) → ShapeWithin shape → AreBytes p.rest → part_says shape s p ≡ Ok tt
    → (places : List PlaceData) (inners : List InnerData) (bytes : List ℕ) → Held shape (further s p) places inners bytes
    → Held shape s (places_with (record_by shape (part_of p)) places) (inners_with (record_by shape (part_of p)) inners) (piece_bytes p.rest ++ bytes)
held_part shape s p w bs e places inners bytes h =
    let b = both (kind_says p) (body_by shape s (part_of p)) e in
    let k = kind_within p b.0 in
    cond_both (is_place p) (PlacePart p) (InnerPart p)
    (λ x. body_by shape s x ≡ Ok tt → Held shape (further_by s x) places inners bytes → Held shape s (places_with (record_by shape x) places) (inners_with (record_by shape x) inners) (piece_bytes p.rest ++ bytes))
    (λ i t. held_place shape s p w bs (eqb-true (byte_at p.rest kind_from) place_kind i) (place_tests shape s.places s.inners p.offset p.rest t) places inners bytes)
    (λ i t. held_inner shape s p w bs (let n = eqb-false (byte_at p.rest kind_from) place_kind i in omega (arith, n, k)) (inner_tests shape s.inners p.offset p.rest t) places inners bytes)
    b.1 h

held_pieces : (shape : Shape) → ShapeWithin shape → (ps : List PieceData) (s : Progress) → AllByRecursion (λ p. AreBytes p.rest) ps → Counted s → each_piece (part_says shape) further s ps ≡ Ok tt
    → Held shape s (places_of shape ps) (inners_of shape ps) (joined (λ p. piece_bytes p.rest) ps)
held_pieces shape w [] s bs c e =
    record {
      places_valid = tt;
      inners_valid = tt;
      places_rising = tt;
      inners_rising = tt;
      place_count_lem = let l = c.0 in omega arith;
      inner_count_lem = let l = c.1 in omega arith;
      no_place = λ _. refl;
      written = refl;
    }
held_pieces shape w (p ∷ ps) s bs c e =
    let b = both (part_says shape s p) (each_piece (part_says shape) further (further s p) ps) e in
    let k = counted_further shape s p c (both (kind_says p) (body_by shape s (part_of p)) b.0).1 in
    held_part shape s p w bs.0 b.0 (places_of shape ps) (inners_of shape ps) (joined (λ x. piece_bytes x.rest) ps) (held_pieces shape w ps (further s p) bs.1 k b.1)

-- the transition that is found, both ways
starts_fit : (place : ℕ) (o : Option TransitionData) → starts_at place o ≡ true → (t : TransitionData) × (o ≡ Some t) × (t.start ≡ place)
starts_fit place None e = absurd (false≢true e)
starts_fit place (Some t) e = (t, refl, eqb-true t.start place e)

joins_fit : (places : List ℕ) (o : Option TransitionData) → joins_listed places o ≡ true → (t : TransitionData) × (o ≡ Some t) × (among t.start places ≡ true) × (among t.target places ≡ true)
joins_fit places None e = absurd (false≢true e)
joins_fit places (Some t) e = let p = and_parts (among t.start places) (among t.target places) e in (t, refl, p.0, p.1)

module _ (transitions : List TransitionData) (w : WitnessData) where
  abbrev naming : Named
  naming = named_in transitions (numbers_in w)

  -- a plan entry, both ways
  entry_fits_lem : (place n : ℕ) → entry_fits naming place n ≡ true → EntryFits transitions w place n
  unfolding entry_fits
  entry_fits_lem place n e =
      let p = and_parts (starts_at place (first_with (λ t. t.number) n transitions)) (among n (inner_numbers w)) e in
      (starts_fit place (first_with (λ t. t.number) n transitions) p.0, p.1)

  entry_named : (place n : ℕ) → EntryFits transitions w place n → entry_fits naming place n ≡ true
  unfolding entry_fits
  entry_named place n h =
      and_from (starts_at place (first_with (λ t. t.number) n transitions)) (among n (inner_numbers w))
      (ap (starts_at place) h.0.1 ∙ eq-eqb h.0.0.start place h.0.2) h.1

  -- an inner transition, both ways
  inner_fits_lem : (n : ℕ) → inner_fits naming n ≡ true → (t : TransitionData) × Transition-is transitions n t × (among t.start (place_numbers w) ≡ true) × (among t.target (place_numbers w) ≡ true)
  unfolding inner_fits
  inner_fits_lem n e = joins_fit (place_numbers w) (first_with (λ t. t.number) n transitions) e

  inner_named : (n : ℕ) → (t : TransitionData) × Transition-is transitions n t × (among t.start (place_numbers w) ≡ true) × (among t.target (place_numbers w) ≡ true) → inner_fits naming n ≡ true
  unfolding inner_fits
  inner_named n h =
      ap (joins_listed (place_numbers w)) h.1 ∙ and_from (among h.0.start (place_numbers w)) (among h.0.target (place_numbers w)) h.2 h.3

  module _ (shape : Shape) (offset : ℕ) (rest : List ℕ) (some : 1 ≤ entries shape rest) where
    abbrev entry_number : ℕ → ℕ
    entry_number i = word_at rest (entry_from shape (plan_from shape rest) i)

    -- the plan of a place, both ways
    plan_fits : plan_says shape naming offset rest ≡ Ok tt → PlanFits transitions w (place_at shape rest)
    unfolding plan_says
    plan_fits e = (
      all_each (λ x. EntryFits transitions w (word_at rest number_from) x.transition) (entry_at shape rest (plan_from shape rest)) (entries shape rest - 1) (λ i l. fits i (omega arith)),
      fits (entries shape rest - 1) (omega arith),
    )
      where
        fits : (i : ℕ) → i < entries shape rest → EntryFits transitions w (word_at rest number_from) (entry_number i)
        fits i l =
            entry_fits_lem (word_at rest number_from) (entry_number i)
            (check_true (entry_fits naming (word_at rest number_from) (entry_number i)) (fault_at WitnessReference (rest_from offset + entry_from shape (plan_from shape rest) i))
            (each_passed (entry_test naming (word_at rest number_from) offset rest (plan_from shape rest) (entry_stride shape)) (entries shape rest) e i l))

    plan_passes : PlanFits transitions w (place_at shape rest) → plan_says shape naming offset rest ≡ Ok tt
    unfolding plan_says
    plan_passes h =
        each_pass (entry_test naming (word_at rest number_from) offset rest (plan_from shape rest) (entry_stride shape)) (entries shape rest)
        (λ i l. check_passes (entry_fits naming (word_at rest number_from) (entry_number i)) (fault_at WitnessReference (rest_from offset + entry_from shape (plan_from shape rest) i))
        (entry_named (word_at rest number_from) (entry_number i) (fits i l)))
      where
        fits : (i : ℕ) → i < entries shape rest → EntryFits transitions w (word_at rest number_from) (entry_number i)
        fits i l =
            elim (cases_lt i (entries shape rest - 1)) [
              | inl m ↦ each_all (λ x. EntryFits transitions w (word_at rest number_from) x.transition) (entry_at shape rest (plan_from shape rest)) (entries shape rest - 1) h.0 i m
              | inr m ↦
                  let q : entries shape rest - 1 ≡ i = omega arith in
                  subst (λ (k : ℕ). EntryFits transitions w (word_at rest number_from) (entry_number k)) q h.1
            ]

  -- the references of a piece that passes, and of all of them, both ways
  module _ (shape : Shape) (s : Progress) (p : PieceData) (places : List PlaceData) (inners : List InnerData) (e : part_says shape s p ≡ Ok tt) where
    abbrev PlansFit : List PlaceData → Type 0
    PlansFit xs = AllByRecursion (PlanFits transitions w) xs

    abbrev InnersFit : List InnerData → Type 0
    InnersFit ys = AllByRecursion (InnerFits transitions w) ys

    reference_fits : reference_by shape naming (part_of p) ≡ Ok tt → PlansFit places × InnersFit inners → PlansFit (places_with (record_by shape (part_of p)) places) × InnersFit (inners_with (record_by shape (part_of p)) inners)
    reference_fits r h =
        cond_both (is_place p) (PlacePart p) (InnerPart p)
        (λ x. body_by shape s x ≡ Ok tt → reference_by shape naming x ≡ Ok tt → PlansFit (places_with (record_by shape x) places) × InnersFit (inners_with (record_by shape x) inners))
        (λ _ t k. ((plan_fits shape p.offset p.rest (place_tests shape s.places s.inners p.offset p.rest t).some_entry k, h.0), h.1))
        (λ _ t k. (h.0, (inner_fits_lem (number_of p) (check_true (inner_fits naming (number_of p)) (fault_at WitnessReference (rest_from p.offset + number_from)) k), h.1)))
        (both (kind_says p) (body_by shape s (part_of p)) e).1 r

    reference_passes : PlansFit (places_with (record_by shape (part_of p)) places) → InnersFit (inners_with (record_by shape (part_of p)) inners) → (reference_by shape naming (part_of p) ≡ Ok tt) × PlansFit places × InnersFit inners
    reference_passes =
        cond_both (is_place p) (PlacePart p) (InnerPart p)
        (λ x. body_by shape s x ≡ Ok tt → PlansFit (places_with (record_by shape x) places) → InnersFit (inners_with (record_by shape x) inners) → (reference_by shape naming x ≡ Ok tt) × PlansFit places × InnersFit inners)
        (λ _ t f g. (plan_passes shape p.offset p.rest (place_tests shape s.places s.inners p.offset p.rest t).some_entry f.0, f.1, g))
        (λ _ t f g. (check_passes (inner_fits naming (number_of p)) (fault_at WitnessReference (rest_from p.offset + number_from)) (inner_named (number_of p) g.0), f, g.1))
        (both (kind_says p) (body_by shape s (part_of p)) e).1

  references_fit : (shape : Shape) (ps : List PieceData) (s : Progress) → each_piece (part_says shape) further s ps ≡ Ok tt → references_say shape naming ps ≡ Ok tt
      → AllByRecursion (PlanFits transitions w) (places_of shape ps) × AllByRecursion (InnerFits transitions w) (inners_of shape ps)
  references_fit shape [] s e r = (tt, tt)
  references_fit shape (p ∷ ps) s e r =
      let b = both (part_says shape s p) (each_piece (part_says shape) further (further s p) ps) e in
      let k = both (reference_by shape naming (part_of p)) (references_say shape naming ps) r in
      reference_fits shape s p (places_of shape ps) (inners_of shape ps) b.0 k.0 (references_fit shape ps (further s p) b.1 k.1)

  references_pass : (shape : Shape) (ps : List PieceData) (s : Progress) → each_piece (part_says shape) further s ps ≡ Ok tt
      → AllByRecursion (PlanFits transitions w) (places_of shape ps) → AllByRecursion (InnerFits transitions w) (inners_of shape ps) → references_say shape naming ps ≡ Ok tt
  references_pass shape [] s e f g = refl
  references_pass shape (p ∷ ps) s e f g =
      let b = both (part_says shape s p) (each_piece (part_says shape) further (further s p) ps) e in
      let k = reference_passes shape s p (places_of shape ps) (inners_of shape ps) b.0 f g in
      passes_then (reference_by shape naming (part_of p)) (references_say shape naming ps) k.0 (references_pass shape ps (further s p) b.1 k.1 k.2)

-- the rests of the pieces of a witness
abbrev rests_of : Shape → List PlaceData → List InnerData → List (List ℕ)
rests_of shape places inners = map (place_bytes shape) places ++ map (inner_bytes shape) inners

module _ (shape : Shape) where
  kind_passes : (p : PieceData) → 1 ≤ length p.rest → place_kind ≤ byte_at p.rest kind_from → byte_at p.rest kind_from ≤ inner_kind → kind_says p ≡ Ok tt
  unfolding kind_says
  kind_passes p l a b = passes_then _ _ (reach_passes WitnessLength p.offset p.rest (kind_from + 1) l) (count_passes WitnessCount p.offset p.rest kind_from place_kind inner_kind a b)

  -- what is read from them
  rests_places : (places : List PlaceData) (inners : List InnerData) (at : ℕ) → AllByRecursion (ValidPlace shape) places → places_of shape (pieces_for at (rests_of shape places inners)) ≡ places
  rests_places [] [] at v = refl
  rests_places [] (x ∷ xs) at v = rests_places [] xs (rest_from at + length (inner_bytes shape x)) tt
  rests_places (p ∷ ps) inners at v =
      ap (λ (x : PlaceData). x ∷ places_of shape (pieces_for (rest_from at + length (place_bytes shape p)) (rests_of shape ps inners))) (place_back shape p v.0)
      ∙ ap (λ (xs : List PlaceData). p ∷ xs) (rests_places ps inners (rest_from at + length (place_bytes shape p)) v.1)

  rests_inners : (places : List PlaceData) (inners : List InnerData) (at : ℕ) → AllByRecursion (ValidInner shape) inners → inners_of shape (pieces_for at (rests_of shape places inners)) ≡ inners
  rests_inners [] [] at v = refl
  rests_inners [] (x ∷ xs) at v =
      ap (λ (y : InnerData). y ∷ inners_of shape (pieces_for (rest_from at + length (inner_bytes shape x)) (rests_of shape [] xs))) (inner_back shape x v.0)
      ∙ ap (λ (ys : List InnerData). x ∷ ys) (rests_inners [] xs (rest_from at + length (inner_bytes shape x)) v.1)
  rests_inners (p ∷ ps) inners at v = rests_inners ps inners (rest_from at + length (place_bytes shape p)) v

  -- their tests pass: those of the inner transitions, and of the places in front of them
  inners_pass : (xs : List InnerData) (s : Progress) (at : ℕ) → AllByRecursion (ValidInner shape) xs → Rising (last_of s.inners) (map (λ x. x.number) xs) → length s.inners + length xs ≤ most_inners
      → each_piece (part_says shape) further s (pieces_for at (rests_of shape [] xs)) ≡ Ok tt
  inners_pass [] s at v r c = refl
  inners_pass (x ∷ xs) s at v r c =
      let q : PieceData = record { offset = at; rest = inner_bytes shape x } in
      let l = length_push s.inners (number_of q) in
      let n : last_of (s.inners ++ number_of q ∷ []) ≡ x.number = last_push s.inners (number_of q) ∙ inner_number shape x v.0 in
      passes_then (part_says shape s q) _
      (passes_then (kind_says q) _ (kind_passes q (omega arith) (omega arith) (omega arith)) (inner_passes shape s.inners at (inner_bytes shape x) (written_inner_tests shape x v.0 s.inners at (omega arith) r.0)))
      (inners_pass xs (further s q) (rest_from at + length (inner_bytes shape x)) v.1 (subst (λ (k : ℕ). Rising k (map (λ y. y.number) xs)) (sym n) r.1) (omega (arith, l, c)))

  places_pass : (ps : List PlaceData) (xs : List InnerData) (s : Progress) (at : ℕ) → AllByRecursion (ValidPlace shape) ps → Rising (last_of s.places) (map (λ p. p.number) ps) → length s.places + length ps ≤ most_places
      → AllByRecursion (ValidInner shape) xs → Rising (last_of s.inners) (map (λ x. x.number) xs) → length s.inners + length xs ≤ most_inners → length s.inners ≡ 0
      → each_piece (part_says shape) further s (pieces_for at (rests_of shape ps xs)) ≡ Ok tt
  places_pass [] xs s at v r c vs rs cs z = inners_pass xs s at vs rs cs
  places_pass (p ∷ ps) xs s at v r c vs rs cs z =
      let q : PieceData = record { offset = at; rest = place_bytes shape p } in
      let l = length_push s.places (number_of q) in
      let n : last_of (s.places ++ number_of q ∷ []) ≡ p.number = last_push s.places (number_of q) ∙ place_number_lem shape p v.0 in
      passes_then (part_says shape s q) _
      (passes_then (kind_says q) _ (kind_passes q (omega arith) (omega arith) (omega arith)) (place_passes shape s.places s.inners at (place_bytes shape p) (written_tests shape p v.0 s.places s.inners at (omega arith) z r.0)))
      (places_pass ps xs (further s q) (rest_from at + length (place_bytes shape p)) v.1 (subst (λ (k : ℕ). Rising k (map (λ y. y.number) ps)) (sym n) r.1) (omega (arith, l, c)) vs rs cs z)

  -- and their bytes are the witness's
  rests_joined : (ps : List PlaceData) (xs : List InnerData) → joined piece_bytes (rests_of shape ps xs) ≡ joined (λ p. piece_bytes (place_bytes shape p)) ps ++ joined (λ x. piece_bytes (inner_bytes shape x)) xs
  rests_joined [] [] = refl
  rests_joined [] (x ∷ xs) = ap (λ (ys : List ℕ). piece_bytes (inner_bytes shape x) ++ ys) (rests_joined [] xs)
  rests_joined (p ∷ ps) xs =
      ap (λ (ys : List ℕ). piece_bytes (place_bytes shape p) ++ ys) (rests_joined ps xs)
      ∙ sym (append_assoc (piece_bytes (place_bytes shape p)) (joined (λ y. piece_bytes (place_bytes shape y)) ps) (joined (λ x. piece_bytes (inner_bytes shape x)) xs))

-- a valid witness is read back from its bytes
same_witness : (x y : WitnessData) → x.places ≡ y.places → x.inners ≡ y.inners → x ≡ y
same_witness x y p q i = record { places = p i; inners = q i }

module _ (transitions : List TransitionData) (shape : Shape) (w : WitnessData) (valid : ValidWitness transitions shape w) where
  abbrev written : List ℕ
  written = version ∷ (joined (λ p. piece_bytes (place_bytes shape p)) w.places ++ joined (λ x. piece_bytes (inner_bytes shape x)) w.inners)

  abbrev pieces : List PieceData
  pieces = pieces_for pieces_from (rests_of shape w.places w.inners)

  pieces_chain : Chain written pieces_from pieces
  pieces_chain = written_chain written (rests_of shape w.places w.inners) pieces_from (sym (rests_joined shape w.places w.inners))

  pieces_pass : each_piece (part_says shape) further begun pieces ≡ Ok tt
  pieces_pass =
      let c = valid.place_count_lem in
      let k = valid.inner_count_lem in
      places_pass shape w.places w.inners begun pieces_from valid.places valid.places_rising (omega arith) valid.inners valid.inners_rising (omega arith) refl

  pieces_back : pieces_of written ≡ pieces
  unfolding pieces_of
  pieces_back = chain_pieces written pieces (left written pieces_from) pieces_from (omega arith) pieces_chain

  witness_back : witness_at shape written ≡ w
  witness_back =
      same_witness (witness_at shape written) w (ap (places_of shape) pieces_back ∙ rests_places shape w.places w.inners pieces_from valid.places)
      (ap (inners_of shape) pieces_back ∙ rests_inners shape w.places w.inners pieces_from valid.inners)

  references_back : references_say shape (named_in transitions (numbers_in (witness_at shape written))) (pieces_of written) ≡ Ok tt
  references_back =
      ap (λ (x : WitnessData). references_say shape (named_in transitions (numbers_in x)) (pieces_of written)) witness_back
      ∙ ap (references_say shape (named_in transitions (numbers_in w))) pieces_back
      ∙ references_pass transitions w shape pieces begun pieces_pass
      (subst (AllByRecursion (PlanFits transitions w)) (sym (rests_places shape w.places w.inners pieces_from valid.places)) valid.plans_fit)
      (subst (AllByRecursion (InnerFits transitions w)) (sym (rests_inners shape w.places w.inners pieces_from valid.inners)) valid.inners_fit)

  content_back : content_says transitions shape written ≡ Ok tt
  unfolding content_says pieces_say
  content_back = passes_then (pieces_say shape written) _ (chain_walk WitnessLength (part_says shape) further written pieces (left written pieces_from) begun pieces_from (omega arith) pieces_chain pieces_pass) references_back

  version_back : version_says WitnessVersion written ≡ Ok tt
  version_back = check_passes (leb 1 (length written) && eqb (byte_at written 0) version) (fault_at WitnessVersion 0) (and_from (leb 1 (length written)) true (le-leb 1 (length written) (omega arith)) refl)

  read_written : read_witness transitions shape written ≡ Ok w
  read_written =
      sym (given (witness_at shape written) (witness_says transitions shape written) w (sym (passes_then (version_says WitnessVersion written) (content_says transitions shape written) version_back content_back)) (sym witness_back))

-- what is read is valid, and stands in no other bytes
module _ (transitions : List TransitionData) (shape : Shape) (within : ShapeWithin shape) (bytes : List ℕ) (bs : AreBytes bytes) (e : witness_says transitions shape bytes ≡ Ok tt) where
  abbrev read : WitnessData
  read = witness_at shape bytes

  content_passed : (pieces_say shape bytes ≡ Ok tt) × (references_say shape (named_in transitions (numbers_in read)) (pieces_of bytes) ≡ Ok tt)
  unfolding content_says
  content_passed = both (pieces_say shape bytes) (references_say shape (named_in transitions (numbers_in read)) (pieces_of bytes)) (both (version_says WitnessVersion bytes) (content_says transitions shape bytes) e).1

  read_chain : Chain bytes pieces_from (pieces_of bytes)
  unfolding pieces_say pieces_of
  read_chain = walk_chain WitnessLength (part_says shape) further bytes (left bytes pieces_from) begun pieces_from (omega arith) content_passed.0

  read_each : each_piece (part_says shape) further begun (pieces_of bytes) ≡ Ok tt
  unfolding pieces_say pieces_of
  read_each = walk_each WitnessLength (part_says shape) further bytes (left bytes pieces_from) begun pieces_from content_passed.0

  read_held : Held shape begun read.places read.inners (joined (λ p. piece_bytes p.rest) (pieces_of bytes))
  read_held = held_pieces shape within (pieces_of bytes) begun (chain_bytes bytes bs (pieces_of bytes) pieces_from read_chain) (omega arith, omega arith) read_each

  read_valid : ValidWitness transitions shape read
  read_valid =
      let h = read_held in
      let f = references_fit transitions read shape (pieces_of bytes) begun read_each content_passed.1 in
      let c = h.place_count_lem in
      let k = h.inner_count_lem in
      record {
        place_count_lem = omega arith;
        places = h.places_valid;
        places_rising = h.places_rising;
        inner_count_lem = omega arith;
        inners = h.inners_valid;
        inners_rising = h.inners_rising;
        plans_fit = f.0;
        inners_fit = f.1;
      }

  read_version : (1 ≤ length bytes) × (byte_at bytes 0 ≡ version)
  read_version =
      let v = (both (version_says WitnessVersion bytes) (content_says transitions shape bytes) e).0 in
      let p = and_parts (leb 1 (length bytes)) (eqb (byte_at bytes 0) version) (check_true (leb 1 (length bytes) && eqb (byte_at bytes 0) version) (fault_at WitnessVersion 0) v) in
      (leb-true 1 (length bytes) p.0, eqb-true (byte_at bytes 0) version p.1)

  read_bytes : bytes ≡ witness_bytes shape read
  unfolding witness_bytes
  read_bytes =
      let v = read_version in
      drop_more bytes 0 0 v.0
      ∙ ap (λ (x : ℕ). x ∷ drop 1 bytes) v.1
      ∙ ap (λ (xs : List ℕ). version ∷ xs) (chain_joined bytes bs (pieces_of bytes) pieces_from read_chain ∙ read_held.written)

pub witness_exactly : (transitions : List TransitionData) (shape : Shape) → ShapeWithin shape → (bytes : List ℕ) → AreBytes bytes → WitnessExactly transitions shape bytes
unfolding witness_bytes
witness_exactly transitions shape within bytes bs =
    record {
      read_back = λ w v e. ap (read_witness transitions shape) e ∙ read_written transitions shape w v;
      only_written = λ w e.
          let g = given_ok (witness_at shape bytes) (witness_says transitions shape bytes) w (sym e) in
          subst (λ (x : WitnessData). ValidWitness transitions shape x × (bytes ≡ witness_bytes shape x)) (sym g.1) (read_valid transitions shape within bytes bs (sym g.0), read_bytes transitions shape within bytes bs (sym g.0));
    }
