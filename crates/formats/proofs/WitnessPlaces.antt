-- The place of a fault of a witness is at most the bytes' length: test by test, in their order.
use Rattle.std.proofs.Common.{◌≡◌, ℕ, zero, suc, ◌+◌, ◌-◌, ◌*◌, ◌≤◌, ◌&&◌, eqb, ltb, leb, List, [], ◌∷◌, length, Ok, arith}
use Rattle.std.proofs.lemmas.Bool.{ltb-true, cond_both}
use Rattle.std.specs.List.{AllByRecursion}
use Rattle.rows.specs.declared.fault.FaultKind.{FaultKind}
use Rattle.rows.specs.declared.fault.FaultKind.TheVariants.{TableCount, WitnessVersion, WitnessLength, WitnessCount, WitnessNumber, WitnessWritten, WitnessReference}
use Rattle.rows.specs.Bytes.{word_at}
use Rattle.rows.specs.Faults.{Said, ◌and_then◌, check}
use Rattle.rows.proofs.Chains.{both}
use Rattle.records.specs.declared.shape.Shape.{Shape}
use Rattle.records.specs.Limits.{most_conditions, most_entries, most_restrictions, most_places, most_inners}
use Rattle.records.specs.Records.{TransitionData}
use Rattle.records.specs.Slots.{over_values}
use Rattle.formats.specs.Pieces.{byte_at, fault_at, rest_from, version, pieces_from, piece_end, piece_says, version_says}
use Rattle.formats.specs.Placed.{Placed}
use Rattle.formats.specs.StoredRows.{row_says, rows_say}
use Rattle.formats.specs.Walks.{PieceData, piece_data, left, walk_says}
use Rattle.formats.specs.Witnesses.{last_of, place_kind, inner_kind, kind_from, number_from, count_from, rows_from, is_place, plan_count_from, plan_from, entries, entry_stride, test_from, tested_say, place_length, place_says, choices_from, inner_length, inner_says, kind_says, PlacePart, InnerPart, part_of, Progress, begun, further, body_by, part_says, pieces_of, pieces_say, witness_at, numbers_in, Named, inner_fits, entry_test, plan_says, reference_by, references_say, number_of, named_in, content_says, witness_says, witness_memory_says, admit_says}
use Rattle.formats.proofs.FaultPlaces.{placed_then, placed_ok, placed_check, placed_each, placed_row, placed_rows, placed_reach, placed_long, placed_count, placed_above, placed_piece, placed_where, rest_within}
use Rattle.formats.proofs.PiecesWritten.{each_piece, PieceWithin, walk_each, walk_chain, chain_within}
use Rattle.formats.proofs.RowItems.{stride_within}
use Rattle.formats.proofs.WitnessParts.{place_plan, kind_reaches}

-- the tests of a piece whose rest ends within n
module _ (n offset : ℕ) (rest : List ℕ) (inside : rest_from offset + length rest ≤ n) (shape : Shape) where
  placed_tested : (from count : ℕ) → from + entry_stride shape * count ≤ length rest → Placed n (tested_say shape offset rest from count)
  placed_tested from count l =
      placed_each n (λ e. row_says WitnessWritten (over_values shape) offset rest (test_from shape from e)) count
      (λ e h. placed_row n WitnessWritten (over_values shape) offset rest (test_from shape from e) (let w = stride_within (entry_stride shape) e count h in omega (arith, w, l, inside)))

  placed_place : (places inners : List ℕ) → Placed n (place_says shape places inners offset rest)
  unfolding place_says
  placed_place places inners =
      placed_then n (check (ltb (length places) most_places) (fault_at WitnessCount (rest_from offset + kind_from))) _ (placed_check n (rest_from offset + kind_from) (ltb (length places) most_places) WitnessCount (omega (arith, inside)))
      (λ _. placed_reach n offset rest inside WitnessLength (count_from + 1) _ (λ a. placed_count n offset rest inside WitnessCount count_from 0 most_conditions _ (omega (arith, a))
      (placed_reach n offset rest inside WitnessLength (plan_count_from shape rest + 1) _ (λ b. placed_count n offset rest inside WitnessCount (plan_count_from shape rest) 1 most_entries _ (omega (arith, b))
      (placed_long n offset rest inside WitnessLength (place_length shape rest) _
      (λ l. placed_then n (check (eqb (length inners) 0) (fault_at WitnessNumber (rest_from offset + kind_from))) _ (placed_check n (rest_from offset + kind_from) (eqb (length inners) 0) WitnessNumber (omega (arith, inside)))
      (λ _. placed_above n offset rest inside WitnessNumber number_from (last_of places) _ (omega (arith, a))
      (placed_then n (rows_say WitnessWritten (over_values shape) offset rest rows_from (byte_at rest count_from)) _ (placed_rows n WitnessWritten (over_values shape) offset rest rows_from (byte_at rest count_from) (omega (arith, b, inside)))
      (λ _. placed_tested (plan_from shape rest) (entries shape rest - 1) (omega (arith, l)))))))))))

  placed_inner : (inners : List ℕ) → Placed n (inner_says shape inners offset rest)
  unfolding inner_says
  placed_inner inners =
      placed_then n (check (ltb (length inners) most_inners) (fault_at WitnessCount (rest_from offset + kind_from))) _ (placed_check n (rest_from offset + kind_from) (ltb (length inners) most_inners) WitnessCount (omega (arith, inside)))
      (λ _. placed_reach n offset rest inside WitnessLength (count_from + 1) _ (λ a. placed_count n offset rest inside WitnessCount count_from 0 most_restrictions _ (omega (arith, a))
      (placed_long n offset rest inside WitnessLength (inner_length shape rest) _ (λ l. placed_above n offset rest inside WitnessNumber number_from (last_of inners) _ (omega (arith, a))
      (placed_then n (rows_say WitnessWritten shape offset rest rows_from (byte_at rest count_from)) _ (placed_rows n WitnessWritten shape offset rest rows_from (byte_at rest count_from) (omega (arith, l, inside)))
      (λ _. placed_rows n WitnessWritten (over_values shape) offset rest (choices_from shape rest) shape.choices (omega (arith, l, inside))))))))

-- the kind of a piece
placed_kind : (n : ℕ) (p : PieceData) → PieceWithin n p → Placed n (kind_says p)
unfolding kind_says
placed_kind n p l =
    placed_reach n p.offset p.rest l WitnessLength (kind_from + 1) _
    (λ a. placed_check n (rest_from p.offset + kind_from) (leb place_kind (byte_at p.rest kind_from) && leb (byte_at p.rest kind_from) inner_kind) WitnessCount (omega (arith, l)))

-- a piece, by its kind
placed_part : (n : ℕ) (shape : Shape) (s : Progress) (p : PieceData) → PieceWithin n p → Placed n (part_says shape s p)
placed_part n shape s p l =
    placed_then n (kind_says p) (body_by shape s (part_of p)) (placed_kind n p l)
    (λ _. cond_both (is_place p) (PlacePart p) (InnerPart p) (λ x. Placed n (body_by shape s x))
    (λ _. placed_place n p.offset p.rest l shape s.places s.inners) (λ _. placed_inner n p.offset p.rest l shape s.inners))

-- a walk whose tests have their places within the bytes
placed_walk : {S : Type 0} (kind : FaultKind) (test : S → PieceData → Said) (next : S → PieceData → S) (bytes : List ℕ)
    → ((s : S) (p : PieceData) → PieceWithin (length bytes) p → Placed (length bytes) (test s p))
    → (n : ℕ) (s : S) (at : ℕ) → Placed (length bytes) (walk_says kind test next bytes n s at)
unfolding walk_says
placed_walk kind test next bytes h zero s at = placed_ok (length bytes)
placed_walk kind test next bytes h (suc n) s at =
    placed_where (length bytes) (ltb at (length bytes)) _
    (λ t. placed_then (length bytes) (piece_says kind bytes at and_then test s (piece_data bytes at)) _
    (placed_then (length bytes) (piece_says kind bytes at) (test s (piece_data bytes at)) (placed_piece kind bytes at (let l = ltb-true at (length bytes) t in omega (arith, l)))
    (λ e. h s (piece_data bytes at) (rest_within kind bytes at e)))
    (λ _. placed_walk kind test next bytes h n (next s (piece_data bytes at)) (piece_end bytes at)))

-- the entries of a plan that is as long as it says
placed_plan : (n : ℕ) (shape : Shape) (named : Named) (p : PieceData) → PieceWithin n p → length p.rest ≡ place_length shape p.rest → Placed n (plan_says shape named p.offset p.rest)
unfolding plan_says
placed_plan n shape named p l e =
    placed_each n (entry_test named (word_at p.rest number_from) p.offset p.rest (plan_from shape p.rest) (entry_stride shape)) (entries shape p.rest)
    (λ i h. placed_check n (rest_from p.offset + (plan_from shape p.rest + entry_stride shape * i)) _ WitnessReference
    (let w = stride_within (entry_stride shape) i (entries shape p.rest - 1 + 1) (omega arith) in omega (arith, w, l, e)))

-- the references of a piece that has passed
placed_reference : (n : ℕ) (shape : Shape) (named : Named) (s : Progress) (p : PieceData) → PieceWithin n p → part_says shape s p ≡ Ok tt → Placed n (reference_by shape named (part_of p))
placed_reference n shape named s p l e =
    let b = both (kind_says p) (body_by shape s (part_of p)) e in
    cond_both (is_place p) (PlacePart p) (InnerPart p) (λ x. body_by shape s x ≡ Ok tt → Placed n (reference_by shape named x))
    (λ _ h. placed_plan n shape named p l (place_plan shape s.places s.inners p.offset p.rest h).2)
    (λ _ h. placed_check n (rest_from p.offset + number_from) (inner_fits named (number_of p)) WitnessReference (let k = kind_reaches p b.0 in omega (arith, k, l)))
    b.1

placed_references : (n : ℕ) (shape : Shape) (named : Named) (ps : List PieceData) (s : Progress) → AllByRecursion (PieceWithin n) ps → each_piece (part_says shape) further s ps ≡ Ok tt → Placed n (references_say shape named ps)
placed_references n shape named [] s l e = placed_ok n
placed_references n shape named (p ∷ ps) s l e =
    let b = both (part_says shape s p) (each_piece (part_says shape) further (further s p) ps) e in
    placed_then n (reference_by shape named (part_of p)) (references_say shape named ps) (placed_reference n shape named s p l.0 b.0)
    (λ _. placed_references n shape named ps (further s p) l.1 b.1)

-- the pieces, and then the references of pieces that have passed
placed_content : (transitions : List TransitionData) (shape : Shape) (bytes : List ℕ) → Placed (length bytes) (content_says transitions shape bytes)
unfolding content_says pieces_say pieces_of
placed_content transitions shape bytes =
    placed_then (length bytes) (pieces_say shape bytes) _ (placed_walk WitnessLength (part_says shape) further bytes (placed_part (length bytes) shape) (left bytes pieces_from) begun pieces_from)
    (λ e. placed_references (length bytes) shape (named_in transitions (numbers_in (witness_at shape bytes))) (pieces_of bytes) begun
    (chain_within bytes (pieces_of bytes) pieces_from (walk_chain WitnessLength (part_says shape) further bytes (left bytes pieces_from) begun pieces_from (omega arith) e))
    (walk_each WitnessLength (part_says shape) further bytes (left bytes pieces_from) begun pieces_from e))

pub placed_witness : (transitions : List TransitionData) (shape : Shape) (bytes : List ℕ) → Placed (length bytes) (witness_says transitions shape bytes)
placed_witness transitions shape bytes =
    placed_then (length bytes) (version_says WitnessVersion bytes) (content_says transitions shape bytes)
    (placed_check (length bytes) 0 (leb 1 (length bytes) && eqb (byte_at bytes 0) version) WitnessVersion (omega arith)) (λ _. placed_content transitions shape bytes)

-- the same with the test of the memory, whose fault is at the front
pub placed_admit : (places inners : ℕ) (transitions : List TransitionData) (shape : Shape) (bytes : List ℕ) → Placed (length bytes) (admit_says places inners transitions shape bytes)
placed_admit places inners transitions shape bytes =
    placed_then (length bytes) (witness_memory_says places inners) (witness_says transitions shape bytes)
    (placed_check (length bytes) 0 (leb most_places places && leb most_inners inners) TableCount (omega arith)) (λ _. placed_witness transitions shape bytes)
