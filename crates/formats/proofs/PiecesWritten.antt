-- The pieces of some bytes: what a walk over them that passes tells of the list of pieces, and the list of pieces that
-- stands in written bytes. Then what a place and an inner transition are in the rest of a piece, both ways.
use Rattle.std.proofs.Common.{◌≡◌, ℕ, zero, suc, ◌+◌, ◌-◌, ◌*◌, ◌/◌, ◌%◌, ◌<◌, ◌≤◌, Bool, true, false, cond, eqb, ltb, List, [], ◌∷◌, ◌++◌, length, get_or, drop, Ok, sym, refl, ap, ◌∙◌, subst, arith, length-append, length-drop, length-take}
use Rattle.std.proofs.ByRecursion.{All-take, All-drop, All-get_or, All-from_get_or}
use Rattle.std.proofs.lemmas.List.{drop_all, append_assoc, append-nil, get_or-append-add, drop_more}
use Rattle.std.proofs.lemmas.Bool.{lt-ltb, le-ltb, cond-true, cond-false, ltb-false, eq-eqb, ltb-true, eqb-true}
use Rattle.std.proofs.lemmas.List.FromFn.{length-map-range_with_len, get_or-map-range_with_len, fill_by_all}
use Rattle.std.specs.List.{AllByRecursion}
use Rattle.rows.specs.declared.fault.FaultKind.{FaultKind}
use Rattle.rows.specs.declared.fault.FaultKind.TheVariants.{WitnessLength, WitnessCount, WitnessNumber, WitnessWritten}
use Rattle.rows.specs.Bytes.{word_at}
use Rattle.rows.specs.Faults.{Said, ◌and_then◌}
use Rattle.rows.specs.declared.numbers.Numbers.{Numbers}
use Rattle.rows.proofs.Chains.{goes, both}
use Rattle.records.specs.declared.shape.Shape.{Shape}
use Rattle.records.specs.Limits.{most_conditions, most_entries, most_restrictions, most_places, most_inners}
use Rattle.records.specs.Records.{EntryData, PlaceData, InnerData}
use Rattle.records.specs.Slots.{over_values, stride}
use Rattle.formats.specs.Pieces.{rest_from, piece_at, piece_end, piece_says, each, byte_at, fault_at, reach_says, long_says, count_says, above_says}
use Rattle.formats.specs.Walks.{PieceData, piece_data, left, pieces_at, walk_says}
use Rattle.formats.specs.Writing.{AreBytes, joined, piece_bytes, word_bytes, row_bytes, rows_bytes, entry_bytes, place_bytes, inner_bytes}
use Rattle.formats.specs.StoredRows.{row_at, row_says, rows_at, rows_say}
use Rattle.formats.specs.Valid.{ShapeWithin, StoredRow, ValidEntry, ValidPlace, ValidInner}
use Rattle.formats.specs.Witnesses.{last_of, place_kind, inner_kind, kind_from, number_from, count_from, rows_from, plan_count_from, plan_from, entries, entry_stride, entry_from, test_from, entry_at, tested_at, tested_say, place_at, place_length, place_says, choices_from, inner_at, inner_length, inner_says}
use Rattle.formats.proofs.FieldTests.{piece_back, piece_only, passes_then, check_passes, reach_passes, reach_passed, long_passes, long_passed, count_passes, count_passed, above_passes, above_passed}
use Rattle.formats.proofs.PieceTests.{found, found_ends}
use Rattle.formats.proofs.RowItems.{stride_within}
use Rattle.formats.proofs.RowsWritten.{row_length, rows_length, row_standing, row_standing_passes, rows_standing, rows_standing_pass, each_pass, each_passed, row_only, rows_only, row_valid, rows_valid}
use Rattle.formats.proofs.Segments.{cut, cut_both, cut_drop, Stands, stands_left, stands_right, word_back, byte_back, word_only, word_small, joined_length, joined_stands, joined_only}
use Rattle.formats.proofs.WitnessParts.{head}

-- the tests of some pieces, one after another
abbrev pub each_piece : {S : Type 0} → (S → PieceData → Said) → (S → PieceData → S) → S → List PieceData → Said
each_piece test next s [] = Ok tt
each_piece test next s (p ∷ ps) = test s p and_then each_piece test next (next s p) ps

-- a piece lies within so many bytes
abbrev pub PieceWithin : ℕ → PieceData → Type 0
PieceWithin n p = rest_from p.offset + length p.rest ≤ n

-- the rest of a piece that is found
pub found_length : (kind : FaultKind) (bytes : List ℕ) (at : ℕ) → piece_says kind bytes at ≡ Ok tt → length (piece_at bytes at) ≡ word_at bytes at
found_length kind bytes at e =
    let h = found_ends kind bytes at e in
    let l = length-take (word_at bytes at) (drop (rest_from at) bytes) in
    let d = length-drop (rest_from at) bytes in
    omega (arith, h, l, d)

module _ {S : Type 0} (kind : FaultKind) (test : S → PieceData → Said) (next : S → PieceData → S) (bytes : List ℕ) where
  -- a walk that passes: each piece passes, and lies within the bytes
  pub walk_each : (n : ℕ) (s : S) (at : ℕ) → walk_says kind test next bytes n s at ≡ Ok tt → each_piece test next s (pieces_at bytes n at) ≡ Ok tt
  unfolding walk_says pieces_at
  walk_each zero s at e = refl
  walk_each (suc n) s at e = from (ltb at (length bytes)) e (walk_each n (next s (piece_data bytes at)) (piece_end bytes at))
    where
      from :
          (b : Bool)
          → cond b ((piece_says kind bytes at and_then test s (piece_data bytes at)) and_then walk_says kind test next bytes n (next s (piece_data bytes at)) (piece_end bytes at)) (Ok tt) ≡ Ok tt
          → (walk_says kind test next bytes n (next s (piece_data bytes at)) (piece_end bytes at) ≡ Ok tt → each_piece test next (next s (piece_data bytes at)) (pieces_at bytes n (piece_end bytes at)) ≡ Ok tt)
          → each_piece test next s (cond b (piece_data bytes at ∷ pieces_at bytes n (piece_end bytes at)) []) ≡ Ok tt
      from true h k =
          let p = both (piece_says kind bytes at and_then test s (piece_data bytes at)) _ h in
          let t = (both (piece_says kind bytes at) (test s (piece_data bytes at)) p.0).1 in
          sym (goes (test s (piece_data bytes at)) _ (Ok tt) (sym t) (sym (k p.1)))
      from false h k = refl

-- pieces one behind another from an offset to the end of the bytes
abbrev pub Chain : List ℕ → ℕ → List PieceData → Type 0
Chain bytes at [] = length bytes ≤ at
Chain bytes at (p ∷ ps) = (p ≡ piece_data bytes at) × (piece_end bytes at ≤ length bytes) × Chain bytes (piece_end bytes at) ps

module _ {S : Type 0} (kind : FaultKind) (test : S → PieceData → Said) (next : S → PieceData → S) (bytes : List ℕ) where
  -- the pieces of a walk that passes
  pub walk_chain : (n : ℕ) (s : S) (at : ℕ) → left bytes at ≤ n → walk_says kind test next bytes n s at ≡ Ok tt → Chain bytes at (pieces_at bytes n at)
  unfolding walk_says pieces_at
  walk_chain zero s at l e = omega arith
  walk_chain (suc n) s at l e = from (ltb at (length bytes)) refl e (walk_chain n (next s (piece_data bytes at)) (piece_end bytes at))
    where
      from :
          (b : Bool)
          → ltb at (length bytes) ≡ b
          → cond b ((piece_says kind bytes at and_then test s (piece_data bytes at)) and_then walk_says kind test next bytes n (next s (piece_data bytes at)) (piece_end bytes at)) (Ok tt) ≡ Ok tt
          → (left bytes (piece_end bytes at) ≤ n → walk_says kind test next bytes n (next s (piece_data bytes at)) (piece_end bytes at) ≡ Ok tt → Chain bytes (piece_end bytes at) (pieces_at bytes n (piece_end bytes at)))
          → Chain bytes at (cond b (piece_data bytes at ∷ pieces_at bytes n (piece_end bytes at)) [])
      from true b h k =
          let p = both (piece_says kind bytes at and_then test s (piece_data bytes at)) _ h in
          let f = (both (piece_says kind bytes at) (test s (piece_data bytes at)) p.0).0 in
          (refl, found_ends kind bytes at f, k (omega arith) p.1)
      from false b h k = ltb-false at (length bytes) b

  -- a walk over pieces that pass passes
  pub chain_walk : (ps : List PieceData) (n : ℕ) (s : S) (at : ℕ) → left bytes at ≤ n → Chain bytes at ps → each_piece test next s ps ≡ Ok tt → walk_says kind test next bytes n s at ≡ Ok tt
  unfolding walk_says
  chain_walk ps zero s at l c e = refl
  chain_walk [] (suc n) s at l c e = cond-false (ltb at (length bytes)) _ (Ok tt) (le-ltb _ _ c)
  chain_walk (p ∷ ps) (suc n) s at l c e =
      let t = both (test s p) (each_piece test next (next s p) ps) e in
      let a : Ok tt ≡ test s (piece_data bytes at) = sym t.0 ∙ ap (test s) c.0 in
      let r = chain_walk ps n (next s p) (piece_end bytes at) (omega arith) c.2 t.1 in
      let q : walk_says kind test next bytes n (next s (piece_data bytes at)) (piece_end bytes at) ≡ Ok tt = ap (λ (x : PieceData). walk_says kind test next bytes n (next s x) (piece_end bytes at)) (sym c.0) ∙ r in
      cond-true (ltb at (length bytes)) _ (Ok tt) (lt-ltb at (length bytes) (let k = c.1 in omega arith))
      ∙ sym (goes (piece_says kind bytes at and_then test s (piece_data bytes at)) _ (Ok tt) (goes (piece_says kind bytes at) _ (Ok tt) (found kind bytes at c.1) a) (sym q))

module _ (bytes : List ℕ) where
  -- pieces that stand one behind another are those that are read
  pub chain_pieces : (ps : List PieceData) (n at : ℕ) → left bytes at ≤ n → Chain bytes at ps → pieces_at bytes n at ≡ ps
  unfolding pieces_at
  chain_pieces [] zero at l c = refl
  chain_pieces (p ∷ ps) zero at l c = absurd (let k = c.1 in omega arith)
  chain_pieces [] (suc n) at l c = cond-false (ltb at (length bytes)) _ [] (le-ltb _ _ c)
  chain_pieces (p ∷ ps) (suc n) at l c =
      let r = chain_pieces ps n (piece_end bytes at) (let k = c.1 in omega arith) c.2 in
      cond-true (ltb at (length bytes)) _ [] (lt-ltb at (length bytes) (let k = c.1 in omega arith))
      ∙ ap (λ (x : List PieceData). piece_data bytes at ∷ x) r
      ∙ ap (λ (x : PieceData). x ∷ ps) (sym c.0)

  -- each lies within the bytes
  pub chain_within : (ps : List PieceData) (at : ℕ) → Chain bytes at ps → AllByRecursion (PieceWithin (length bytes)) ps
  chain_within [] at c = tt
  chain_within (p ∷ ps) at c =
      let l = length-take (word_at bytes at) (drop (rest_from at) bytes) in
      let w : PieceWithin (length bytes) (piece_data bytes at) = let k = c.1 in omega (arith, l) in
      (subst (PieceWithin (length bytes)) (sym c.0) w, chain_within ps (piece_end bytes at) c.2)

  -- and has bytes
  pub chain_bytes : AreBytes bytes → (ps : List PieceData) (at : ℕ) → Chain bytes at ps → AllByRecursion (λ p. AreBytes p.rest) ps
  chain_bytes h [] at c = tt
  chain_bytes h (p ∷ ps) at c = (
    subst (λ (x : PieceData). AreBytes x.rest) (sym c.0) (All-take (λ b. b < 256) (word_at bytes at) (drop (rest_from at) bytes) (All-drop (λ b. b < 256) (rest_from at) bytes h)),
    chain_bytes h ps (piece_end bytes at) c.2,
  )

  -- the bytes from the offset on are those of the pieces
  pub chain_joined : AreBytes bytes → (ps : List PieceData) (at : ℕ) → Chain bytes at ps → drop at bytes ≡ joined (λ p. piece_bytes p.rest) ps
  chain_joined h [] at c = drop_all at bytes c
  chain_joined h (p ∷ ps) at c =
      sym (piece_only WitnessLength bytes h at (sym (found WitnessLength bytes at c.1)))
      ∙ ap (λ (x : List ℕ). piece_bytes (piece_at bytes at) ++ x) (chain_joined h ps (piece_end bytes at) c.2)
      ∙ ap (λ (x : PieceData). piece_bytes x.rest ++ joined (λ p. piece_bytes p.rest) ps) (sym c.0)

-- pieces with these rests, one behind another from an offset
abbrev pub pieces_for : ℕ → List (List ℕ) → List PieceData
pieces_for at [] = []
pieces_for at (r ∷ rs) = record { offset = at; rest = r } ∷ pieces_for (rest_from at + length r) rs

-- written pieces stand one behind another
pub written_chain : (bytes : List ℕ) (rs : List (List ℕ)) (at : ℕ) → drop at bytes ≡ joined piece_bytes rs → Chain bytes at (pieces_for at rs)
written_chain bytes [] at e =
    let l = length-drop at bytes in
    let k = ap length e in
    omega (arith, l, k)
written_chain bytes (r ∷ rs) at e =
    let f = piece_back WitnessLength bytes at r (joined piece_bytes rs) e in
    let w = found_length WitnessLength bytes at f.passes in
    let q : piece_end bytes at ≡ rest_from at + length r = ap (λ (k : ℕ). rest_from at + k) (sym w ∙ ap length f.rest_is) in (
      ap (λ (x : List ℕ). record { offset = at; rest = x }) (sym f.rest_is),
      found_ends WitnessLength bytes at f.passes,
      subst (λ (k : ℕ). Chain bytes (piece_end bytes at) (pieces_for k rs)) q (written_chain bytes rs (piece_end bytes at) f.behind),
    )

-- the tests of a place piece, all of them
pub record PlaceTests (shape : Shape) (places inners : List ℕ) (offset : ℕ) (rest : List ℕ) : Type 0 where
  pub room : length places < most_places
  pub reach : count_from + 1 ≤ length rest
  pub conditions : byte_at rest count_from ≤ most_conditions
  pub some_entry : 1 ≤ entries shape rest
  pub most_entries_lem : entries shape rest ≤ most_entries
  pub long : length rest ≡ place_length shape rest
  pub before_inners : length inners ≡ 0
  pub above : last_of places < word_at rest number_from
  pub rows : rows_say WitnessWritten (over_values shape) offset rest rows_from (byte_at rest count_from) ≡ Ok tt
  pub tested : tested_say shape offset rest (plan_from shape rest) (entries shape rest - 1) ≡ Ok tt

module _ (shape : Shape) (places inners : List ℕ) (offset : ℕ) (rest : List ℕ) where
  pub place_tests : place_says shape places inners offset rest ≡ Ok tt → PlaceTests shape places inners offset rest
  unfolding place_says
  place_tests e =
      let a = head (ltb (length places) most_places) (fault_at WitnessCount (rest_from offset + kind_from)) _ e in
      let b = both (reach_says WitnessLength offset rest (count_from + 1)) _ a.1 in
      let c = both (count_says WitnessCount offset rest count_from 0 most_conditions) _ b.1 in
      let d = both (reach_says WitnessLength offset rest (plan_count_from shape rest + 1)) _ c.1 in
      let k = both (count_says WitnessCount offset rest (plan_count_from shape rest) 1 most_entries) _ d.1 in
      let l = both (long_says WitnessLength offset rest (place_length shape rest)) _ k.1 in
      let i = head (eqb (length inners) 0) (fault_at WitnessNumber (rest_from offset + kind_from)) _ l.1 in
      let n = both (above_says WitnessNumber offset rest number_from (last_of places)) _ i.1 in
      let r = both (rows_say WitnessWritten (over_values shape) offset rest rows_from (byte_at rest count_from)) _ n.1 in
      let p = count_passed WitnessCount offset rest (plan_count_from shape rest) 1 most_entries k.0 in
      record {
        room = ltb-true (length places) most_places a.0;
        reach = reach_passed WitnessLength offset rest (count_from + 1) b.0;
        conditions = (count_passed WitnessCount offset rest count_from 0 most_conditions c.0).1;
        some_entry = p.0;
        most_entries_lem = p.1;
        long = long_passed WitnessLength offset rest (place_length shape rest) l.0;
        before_inners = eqb-true (length inners) 0 i.0;
        above = above_passed WitnessNumber offset rest number_from (last_of places) n.0;
        rows = r.0;
        tested = r.1;
      }

  pub place_passes : PlaceTests shape places inners offset rest → place_says shape places inners offset rest ≡ Ok tt
  unfolding place_says
  place_passes t =
      passes_then _ _ (check_passes _ _ (lt-ltb _ _ t.room))
      (passes_then _ _ (reach_passes WitnessLength offset rest (count_from + 1) t.reach)
      (passes_then _ _ (count_passes WitnessCount offset rest count_from 0 most_conditions (omega arith) t.conditions)
      (passes_then _ _ (reach_passes WitnessLength offset rest (plan_count_from shape rest + 1) (let l = t.long in omega (arith, l)))
      (passes_then _ _ (count_passes WitnessCount offset rest (plan_count_from shape rest) 1 most_entries t.some_entry t.most_entries_lem)
      (passes_then _ _ (long_passes WitnessLength offset rest (place_length shape rest) t.long)
      (passes_then _ _ (check_passes _ _ (eq-eqb _ _ t.before_inners))
      (passes_then _ _ (above_passes WitnessNumber offset rest number_from (last_of places) t.above) (passes_then _ _ t.rows t.tested))))))))

-- the tests of an inner-transition piece, all of them
pub record InnerTests (shape : Shape) (inners : List ℕ) (offset : ℕ) (rest : List ℕ) : Type 0 where
  pub room : length inners < most_inners
  pub reach : count_from + 1 ≤ length rest
  pub restrictions : byte_at rest count_from ≤ most_restrictions
  pub long : length rest ≡ inner_length shape rest
  pub above : last_of inners < word_at rest number_from
  pub rows : rows_say WitnessWritten shape offset rest rows_from (byte_at rest count_from) ≡ Ok tt
  pub choices : rows_say WitnessWritten (over_values shape) offset rest (choices_from shape rest) shape.choices ≡ Ok tt

module _ (shape : Shape) (inners : List ℕ) (offset : ℕ) (rest : List ℕ) where
  pub inner_tests : inner_says shape inners offset rest ≡ Ok tt → InnerTests shape inners offset rest
  unfolding inner_says
  inner_tests e =
      let a = head (ltb (length inners) most_inners) (fault_at WitnessCount (rest_from offset + kind_from)) _ e in
      let b = both (reach_says WitnessLength offset rest (count_from + 1)) _ a.1 in
      let c = both (count_says WitnessCount offset rest count_from 0 most_restrictions) _ b.1 in
      let l = both (long_says WitnessLength offset rest (inner_length shape rest)) _ c.1 in
      let n = both (above_says WitnessNumber offset rest number_from (last_of inners)) _ l.1 in
      let r = both (rows_say WitnessWritten shape offset rest rows_from (byte_at rest count_from)) _ n.1 in
      record {
        room = ltb-true (length inners) most_inners a.0;
        reach = reach_passed WitnessLength offset rest (count_from + 1) b.0;
        restrictions = (count_passed WitnessCount offset rest count_from 0 most_restrictions c.0).1;
        long = long_passed WitnessLength offset rest (inner_length shape rest) l.0;
        above = above_passed WitnessNumber offset rest number_from (last_of inners) n.0;
        rows = r.0;
        choices = r.1;
      }

  pub inner_passes : InnerTests shape inners offset rest → inner_says shape inners offset rest ≡ Ok tt
  unfolding inner_says
  inner_passes t =
      passes_then _ _ (check_passes _ _ (lt-ltb _ _ t.room))
      (passes_then _ _ (reach_passes WitnessLength offset rest (count_from + 1) t.reach)
      (passes_then _ _ (count_passes WitnessCount offset rest count_from 0 most_restrictions (omega arith) t.restrictions)
      (passes_then _ _ (long_passes WitnessLength offset rest (inner_length shape rest) t.long)
      (passes_then _ _ (above_passes WitnessNumber offset rest number_from (last_of inners) t.above) (passes_then _ _ t.rows t.choices)))))

-- what holds of each element made from an index
pub all_each : {X : Type 0} (P : X → Type 0) (f : ℕ → X) (n : ℕ) → ((i : ℕ) → i < n → P (f i)) → AllByRecursion P (each f n)
all_each P f n h =
    let k = length-map-range_with_len f 0 n in
    All-from_get_or P (each f n) (f 0) (λ i l. let m : i < n = omega arith in subst P (sym (get_or-map-range_with_len f 0 n i i (f 0) m (omega arith))) (h i m))

pub each_all : {X : Type 0} (P : X → Type 0) (f : ℕ → X) (n : ℕ) → AllByRecursion P (each f n) → (i : ℕ) → i < n → P (f i)
each_all P f n h i l =
    let k = length-map-range_with_len f 0 n in
    subst P (get_or-map-range_with_len f 0 n i i (f 0) l (omega arith)) (All-get_or P (each f n) i (f 0) (omega arith) h)

-- the shape of rows over the values alone
values_within : (shape : Shape) → ShapeWithin shape → ShapeWithin (over_values shape)
values_within shape w = record { values = w.values; choices = omega arith }

-- a segment reaches from one offset to another: it stands there in front of what is behind
record Reaches (xs : List ℕ) (from to : ℕ) (s : List ℕ) : Type 0 where
  pub joins : s ++ drop to xs ≡ drop from xs

module _ (xs : List ℕ) where
  reaches_cut : (at n to : ℕ) (s : List ℕ) → s ≡ cut at n xs → at + n ≡ to → Reaches xs at to s
  reaches_cut at n to s e q = record { joins = ap (λ (r : List ℕ). r ++ drop to xs) e ∙ ap (λ (k : ℕ). cut at n xs ++ drop k xs) (sym q) ∙ cut_drop at n xs }

  reaches_join : (from mid to : ℕ) (s t : List ℕ) → Reaches xs from mid s → Reaches xs mid to t → Reaches xs from to (s ++ t)
  reaches_join from mid to s t p q = record { joins = append_assoc s t (drop to xs) ∙ ap (λ (r : List ℕ). s ++ r) q.joins ∙ p.joins }

  reaches_byte : (at to b : ℕ) (t : List ℕ) → at < length xs → b ≡ get_or xs at 0 → Reaches xs (at + 1) to t → Reaches xs at to (b ∷ t)
  reaches_byte at to b t l e q = record { joins = ap (λ (c : ℕ). c ∷ (t ++ drop to xs)) e ∙ ap (λ (r : List ℕ). get_or xs at 0 ∷ r) q.joins ∙ sym (drop_more xs at 0 l) }

  reaches_all : (n : ℕ) (s : List ℕ) → length xs ≡ n → Reaches xs 0 n s → s ≡ xs
  reaches_all n s l r = sym (append-nil s) ∙ ap (λ (x : List ℕ). s ++ x) (sym (drop_all n xs (omega arith))) ∙ r.joins

-- a place that is read from a piece that passes
module _ (shape : Shape) (w : ShapeWithin shape) (places inners : List ℕ) (offset : ℕ) (rest : List ℕ) (bs : AreBytes rest) (t : PlaceTests shape places inners offset rest) where
  -- an entry lies within the piece
  entry_within : (e : ℕ) → e < entries shape rest - 1 → entry_from shape (plan_from shape rest) e + entry_stride shape ≤ length rest
  entry_within e l = let s = stride_within (entry_stride shape) e (entries shape rest - 1) l in let k = t.long in omega (arith, s, k)

  entry_valid : (e : ℕ) → e < entries shape rest - 1 → ValidEntry shape (entry_at shape rest (plan_from shape rest) e)
  entry_valid e l =
      let k = entry_within e l in
      record {
        transition = word_small rest bs (entry_from shape (plan_from shape rest) e) (omega arith);
        test = row_valid WitnessWritten (over_values shape) (values_within shape w) offset rest (test_from shape (plan_from shape rest) e) (each_passed (λ i. row_says WitnessWritten (over_values shape) offset rest (test_from shape (plan_from shape rest) i)) (entries shape rest - 1) t.tested e l);
      }

  pub place_valid : ValidPlace shape (place_at shape rest)
  place_valid =
      let k = t.reach in
      let c = t.conditions in
      let n = length-map-range_with_len (λ i. row_at (over_values shape) rest (rows_from + stride (over_values shape) * i)) 0 (byte_at rest count_from) in
      let m = length-map-range_with_len (entry_at shape rest (plan_from shape rest)) 0 (entries shape rest - 1) in
      let x = t.most_entries_lem in
      let l = t.long in
      record {
        number = word_small rest bs number_from (omega arith);
        condition = record { count = omega arith; each = rows_valid WitnessWritten (over_values shape) (values_within shape w) offset rest rows_from (byte_at rest count_from) t.rows };
        tested_count = omega arith;
        tested = all_each (ValidEntry shape) (entry_at shape rest (plan_from shape rest)) (entries shape rest - 1) entry_valid;
        last = word_small rest bs (entry_from shape (plan_from shape rest) (entries shape rest - 1)) (omega arith);
      }

  -- its bytes are the piece's
  entry_only : (e : ℕ) → e < entries shape rest - 1 → entry_bytes shape (entry_at shape rest (plan_from shape rest) e) ≡ cut (entry_from shape (plan_from shape rest) e) (entry_stride shape) rest
  entry_only e l =
      let k = entry_within e l in
      ap (λ (x : List ℕ). x ++ row_bytes (over_values shape) (row_at (over_values shape) rest (test_from shape (plan_from shape rest) e))) (word_only rest bs (entry_from shape (plan_from shape rest) e) (omega arith))
      ∙ ap (λ (x : List ℕ). cut (entry_from shape (plan_from shape rest) e) 2 rest ++ x) (row_only (over_values shape) (values_within shape w) rest bs (test_from shape (plan_from shape rest) e) (omega arith))
      ∙ sym (cut_both (entry_from shape (plan_from shape rest) e) 2 (stride (over_values shape)) rest)

  tested_only : joined (entry_bytes shape) (place_at shape rest).tested ≡ cut (plan_from shape rest) (entry_stride shape * (entries shape rest - 1)) rest
  tested_only =
      let f : ℕ → EntryData = entry_at shape rest (plan_from shape rest) in
      let n = length-map-range_with_len f 0 (entries shape rest - 1) in
      joined_only (entry_bytes shape) (entry_stride shape) rest (plan_from shape rest) (each f (entries shape rest - 1)) (f 0)
      (λ k h. let m : k < entries shape rest - 1 = omega arith in
      ap (entry_bytes shape) (get_or-map-range_with_len f 0 (entries shape rest - 1) k k (f 0) m (omega arith)) ∙ entry_only k m)
      ∙ ap (λ (i : ℕ). cut (plan_from shape rest) (entry_stride shape * i) rest) n

  pub place_only : byte_at rest kind_from ≡ place_kind → place_bytes shape (place_at shape rest) ≡ rest
  place_only e =
      let v = over_values shape in
      let k = t.reach in
      let l = t.long in
      let s = t.some_entry in
      let from = entry_from shape (plan_from shape rest) (entries shape rest - 1) in
      let n = length-map-range_with_len (λ i. row_at v rest (rows_from + stride v * i)) 0 (byte_at rest count_from) in
      let m = length-map-range_with_len (entry_at shape rest (plan_from shape rest)) 0 (entries shape rest - 1) in
      reaches_all rest (place_length shape rest) _ l
      (reaches_byte rest kind_from (place_length shape rest) place_kind _ (omega arith) (sym e)
      (reaches_join rest number_from count_from (place_length shape rest) (word_bytes (word_at rest number_from)) _ (reaches_cut rest number_from 2 count_from _ (word_only rest bs number_from (omega arith)) refl)
      (reaches_byte rest count_from (place_length shape rest) (length (place_at shape rest).condition) _ (omega arith) n
      (reaches_join rest rows_from (plan_count_from shape rest) (place_length shape rest) (rows_bytes v (place_at shape rest).condition) _
      (reaches_cut rest rows_from (stride v * byte_at rest count_from) (plan_count_from shape rest) _ (rows_only v (values_within shape w) rest bs rows_from (byte_at rest count_from) (omega arith)) refl)
      (reaches_byte rest (plan_count_from shape rest) (place_length shape rest) (length (place_at shape rest).tested + 1) _ (omega arith) (omega arith)
      (reaches_join rest (plan_from shape rest) from (place_length shape rest) (joined (entry_bytes shape) (place_at shape rest).tested) _
      (reaches_cut rest (plan_from shape rest) (entry_stride shape * (entries shape rest - 1)) from _ tested_only refl)
      (reaches_cut rest from 2 (place_length shape rest) _ (word_only rest bs from (omega arith)) refl)))))))

-- an inner transition that is read from a piece that passes
module _ (shape : Shape) (w : ShapeWithin shape) (inners : List ℕ) (offset : ℕ) (rest : List ℕ) (bs : AreBytes rest) (t : InnerTests shape inners offset rest) where
  pub inner_valid : ValidInner shape (inner_at shape rest)
  inner_valid =
      let k = t.reach in
      let c = t.restrictions in
      let n = length-map-range_with_len (λ i. row_at shape rest (rows_from + stride shape * i)) 0 (byte_at rest count_from) in
      record {
        number = word_small rest bs number_from (omega arith);
        restrictions = record { count = omega arith; each = rows_valid WitnessWritten shape w offset rest rows_from (byte_at rest count_from) t.rows };
        choice_each = length-map-range_with_len (λ i. row_at (over_values shape) rest (choices_from shape rest + stride (over_values shape) * i)) 0 shape.choices;
        choices = rows_valid WitnessWritten (over_values shape) (values_within shape w) offset rest (choices_from shape rest) shape.choices t.choices;
      }

  -- its bytes are the piece's
  pub inner_only : byte_at rest kind_from ≡ inner_kind → inner_bytes shape (inner_at shape rest) ≡ rest
  inner_only e =
      let v = over_values shape in
      let k = t.reach in
      let l = t.long in
      let n = length-map-range_with_len (λ i. row_at shape rest (rows_from + stride shape * i)) 0 (byte_at rest count_from) in
      reaches_all rest (inner_length shape rest) _ l
      (reaches_byte rest kind_from (inner_length shape rest) inner_kind _ (omega arith) (sym e)
      (reaches_join rest number_from count_from (inner_length shape rest) (word_bytes (word_at rest number_from)) _ (reaches_cut rest number_from 2 count_from _ (word_only rest bs number_from (omega arith)) refl)
      (reaches_byte rest count_from (inner_length shape rest) (length (inner_at shape rest).restrictions) _ (omega arith) n
      (reaches_join rest rows_from (choices_from shape rest) (inner_length shape rest) (rows_bytes shape (inner_at shape rest).restrictions) _
      (reaches_cut rest rows_from (stride shape * byte_at rest count_from) (choices_from shape rest) _ (rows_only shape w rest bs rows_from (byte_at rest count_from) (omega arith)) refl)
      (reaches_cut rest (choices_from shape rest) (stride v * shape.choices) (inner_length shape rest) _ (rows_only v (values_within shape w) rest bs (choices_from shape rest) shape.choices (omega arith)) refl)))))

-- records from their fields
same_entry : (n m : ℕ) (a b : Numbers) → n ≡ m → a ≡ b → ◌≡◌ {A = EntryData} (record { transition = n; test = a }) (record { transition = m; test = b })
same_entry n m a b p q i = record { transition = p i; test = q i }

same_place : (x y : PlaceData) → x.number ≡ y.number → x.condition ≡ y.condition → x.tested ≡ y.tested → x.last ≡ y.last → x ≡ y
same_place x y n c t l i = record { number = n i; condition = c i; tested = t i; last = l i }

same_inner : (x y : InnerData) → x.number ≡ y.number → x.restrictions ≡ y.restrictions → x.choices ≡ y.choices → x ≡ y
same_inner x y n r c i = record { number = n i; restrictions = r i; choices = c i }

entry_length : (shape : Shape) (e : EntryData) → length (entry_bytes shape e) ≡ entry_stride shape
entry_length shape e = let r = row_length (over_values shape) e.test in omega (arith, r)

-- a valid place and its bytes
module _ (shape : Shape) (p : PlaceData) (valid : ValidPlace shape p) where
  abbrev place_rest : List ℕ
  place_rest = place_bytes shape p

  abbrev plan_rest : List ℕ
  plan_rest = joined (entry_bytes shape) p.tested ++ word_bytes p.last

  -- where its parts stand
  place_stands : Stands place_rest rows_from (rows_bytes (over_values shape) p.condition ++ (length p.tested + 1) ∷ plan_rest)
  place_stands k l =
      get_or-append-add (place_kind ∷ p.number / 256 ∷ p.number % 256 ∷ length p.condition ∷ []) (rows_bytes (over_values shape) p.condition ++ (length p.tested + 1) ∷ plan_rest) k 0

  conditions_stand : Stands place_rest rows_from (rows_bytes (over_values shape) p.condition)
  conditions_stand = stands_left place_rest rows_from (rows_bytes (over_values shape) p.condition) ((length p.tested + 1) ∷ plan_rest) place_stands

  plan_stands : Stands place_rest (plan_count_from shape place_rest) ((length p.tested + 1) ∷ plan_rest)
  plan_stands = stands_right place_rest rows_from (stride (over_values shape) * length p.condition) (rows_bytes (over_values shape) p.condition) _ (rows_length (over_values shape) p.condition) place_stands

  entries_written : entries shape place_rest ≡ length p.tested + 1
  entries_written = byte_back place_rest (plan_count_from shape place_rest) (length p.tested + 1) plan_rest plan_stands

  entries_stand : Stands place_rest (plan_from shape place_rest) plan_rest
  entries_stand = stands_right place_rest (plan_count_from shape place_rest) 1 ((length p.tested + 1) ∷ []) plan_rest refl plan_stands

  -- an entry is read back
  module _ (k : ℕ) (d : EntryData) (l : k < length p.tested) where
    entry_stands : Stands place_rest (entry_from shape (plan_from shape place_rest) k) (entry_bytes shape (get_or p.tested k d))
    entry_stands = joined_stands (entry_bytes shape) (entry_stride shape) (entry_length shape) place_rest (plan_from shape place_rest) p.tested (stands_left place_rest (plan_from shape place_rest) (joined (entry_bytes shape) p.tested) (word_bytes p.last) entries_stand) k d l

    test_stands : Stands place_rest (test_from shape (plan_from shape place_rest) k) (row_bytes (over_values shape) (get_or p.tested k d).test)
    test_stands = stands_right place_rest (entry_from shape (plan_from shape place_rest) k) 2 (word_bytes (get_or p.tested k d).transition) _ refl entry_stands

    test_valid : StoredRow (over_values shape) (get_or p.tested k d).test
    test_valid = (All-get_or (ValidEntry shape) p.tested k d l valid.tested).test

    entry_back : entry_at shape place_rest (plan_from shape place_rest) k ≡ get_or p.tested k d
    entry_back =
        same_entry _ _ _ _
        (word_back place_rest (entry_from shape (plan_from shape place_rest) k) (get_or p.tested k d).transition (stands_left place_rest (entry_from shape (plan_from shape place_rest) k) (word_bytes (get_or p.tested k d).transition) _ entry_stands))
        (row_standing (over_values shape) (get_or p.tested k d).test test_valid place_rest (test_from shape (plan_from shape place_rest) k) test_stands)

  -- the entries that have a test are, and the last
  tested_back : tested_at shape place_rest (plan_from shape place_rest) (entries shape place_rest - 1) ≡ p.tested
  tested_back =
      let f : ℕ → EntryData = entry_at shape place_rest (plan_from shape place_rest) in
      let n : entries shape place_rest - 1 ≡ length p.tested = let e = entries_written in omega (arith, e) in
      ap (λ (k : ℕ). each f k) n ∙ sym (fill_by_all f p.tested (length p.tested) (f 0) refl (λ k l. sym (entry_back k (f 0) l)))

  last_back : word_at place_rest (entry_from shape (plan_from shape place_rest) (entries shape place_rest - 1)) ≡ p.last
  last_back =
      let n : entries shape place_rest - 1 ≡ length p.tested = let e = entries_written in omega (arith, e) in
      ap (λ (k : ℕ). word_at place_rest (entry_from shape (plan_from shape place_rest) k)) n
      ∙ word_back place_rest (entry_from shape (plan_from shape place_rest) (length p.tested)) p.last
      (stands_right place_rest (plan_from shape place_rest) (entry_stride shape * length p.tested) (joined (entry_bytes shape) p.tested) (word_bytes p.last) (joined_length (entry_bytes shape) (entry_stride shape) (entry_length shape) p.tested) entries_stand)

  -- and so is the place
  pub place_number_lem : word_at place_rest number_from ≡ p.number
  place_number_lem = omega arith

  pub place_back : place_at shape place_rest ≡ p
  place_back = same_place _ _ place_number_lem (rows_standing (over_values shape) p.condition valid.condition.each place_rest rows_from conditions_stand) tested_back last_back

  place_long : length place_rest ≡ place_length shape place_rest
  place_long =
      let v = over_values shape in
      let a = rows_length v p.condition in
      let b = joined_length (entry_bytes shape) (entry_stride shape) (entry_length shape) p.tested in
      let c = length-append (rows_bytes v p.condition) ((length p.tested + 1) ∷ plan_rest) in
      let d = length-append (joined (entry_bytes shape) p.tested) (word_bytes p.last) in
      let e = entries_written in
      let n : entries shape place_rest - 1 ≡ length p.tested = omega (arith, e) in
      let m = ap (λ (k : ℕ). entry_stride shape * k) n in
      omega (arith, a, b, c, d, m)

  -- its tests pass behind smaller numbers
  pub written_tests : (places inners : List ℕ) (offset : ℕ) → length places < most_places → length inners ≡ 0 → last_of places < p.number → PlaceTests shape places inners offset place_rest
  written_tests places inners offset r i a =
      let e = entries_written in
      let m = valid.tested_count in
      record {
        room = r;
        reach = omega arith;
        conditions = valid.condition.count;
        some_entry = omega (arith, e);
        most_entries_lem = omega (arith, e, m);
        long = place_long;
        before_inners = i;
        above = let n = place_number_lem in omega (arith, n, a);
        rows = rows_standing_pass (over_values shape) p.condition valid.condition.each place_rest rows_from conditions_stand WitnessWritten offset;
        tested = each_pass (λ k. row_says WitnessWritten (over_values shape) offset place_rest (test_from shape (plan_from shape place_rest) k)) (entries shape place_rest - 1)
            (λ k l. let d = entry_at shape place_rest (plan_from shape place_rest) 0 in let m : k < length p.tested = omega (arith, e, l) in
            row_standing_passes (over_values shape) (get_or p.tested k d).test (test_valid k d m) place_rest (test_from shape (plan_from shape place_rest) k) (test_stands k d m) WitnessWritten offset);
      }

-- a valid inner transition and its bytes
module _ (shape : Shape) (x : InnerData) (valid : ValidInner shape x) where
  abbrev inner_rest : List ℕ
  inner_rest = inner_bytes shape x

  inner_stands : Stands inner_rest rows_from (rows_bytes shape x.restrictions ++ rows_bytes (over_values shape) x.choices)
  inner_stands k l =
      get_or-append-add (inner_kind ∷ x.number / 256 ∷ x.number % 256 ∷ length x.restrictions ∷ []) (rows_bytes shape x.restrictions ++ rows_bytes (over_values shape) x.choices) k 0

  restrictions_stand : Stands inner_rest rows_from (rows_bytes shape x.restrictions)
  restrictions_stand = stands_left inner_rest rows_from (rows_bytes shape x.restrictions) (rows_bytes (over_values shape) x.choices) inner_stands

  choices_stand : Stands inner_rest (choices_from shape inner_rest) (rows_bytes (over_values shape) x.choices)
  choices_stand =
      stands_right inner_rest rows_from (stride shape * length x.restrictions) (rows_bytes shape x.restrictions) (rows_bytes (over_values shape) x.choices) (rows_length shape x.restrictions) inner_stands

  pub inner_number : word_at inner_rest number_from ≡ x.number
  inner_number = omega arith

  choices_back : rows_at (over_values shape) inner_rest (choices_from shape inner_rest) shape.choices ≡ x.choices
  choices_back =
      ap (λ (k : ℕ). rows_at (over_values shape) inner_rest (choices_from shape inner_rest) k) (sym valid.choice_each)
      ∙ rows_standing (over_values shape) x.choices valid.choices inner_rest (choices_from shape inner_rest) choices_stand

  pub inner_back : inner_at shape inner_rest ≡ x
  inner_back = same_inner _ _ inner_number (rows_standing shape x.restrictions valid.restrictions.each inner_rest rows_from restrictions_stand) choices_back

  inner_long : length inner_rest ≡ inner_length shape inner_rest
  inner_long =
      let a = rows_length shape x.restrictions in
      let b = rows_length (over_values shape) x.choices in
      let c = length-append (rows_bytes shape x.restrictions) (rows_bytes (over_values shape) x.choices) in
      let m = ap (λ (k : ℕ). stride (over_values shape) * k) valid.choice_each in
      omega (arith, a, b, c, m)

  -- its tests pass behind smaller numbers
  pub written_inner_tests : (inners : List ℕ) (offset : ℕ) → length inners < most_inners → last_of inners < x.number → InnerTests shape inners offset inner_rest
  written_inner_tests inners offset r a =
      record {
        room = r;
        reach = omega arith;
        restrictions = valid.restrictions.count;
        long = inner_long;
        above = let n = inner_number in omega (arith, n, a);
        rows = rows_standing_pass shape x.restrictions valid.restrictions.each inner_rest rows_from restrictions_stand WitnessWritten offset;
        choices =
            ap (λ (k : ℕ). rows_say WitnessWritten (over_values shape) offset inner_rest (choices_from shape inner_rest) k) (sym valid.choice_each)
            ∙ rows_standing_pass (over_values shape) x.choices valid.choices inner_rest (choices_from shape inner_rest) choices_stand WitnessWritten offset;
      }
