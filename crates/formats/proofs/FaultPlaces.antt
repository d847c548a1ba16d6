-- The place of a fault is at most the bytes' length: test by test, in their order.
use Rattle.std.proofs.Common.{◌≡◌, ℕ, zero, suc, ◌+◌, ◌*◌, ◌<◌, ◌≤◌, Bool, true, false, cond, ◌&&◌, eqb, ltb, leb, List, length, drop, Some, None, Ok, Err, Option, sym, refl, ap, subst, arith, length-take}
use Rattle.std.proofs.lemmas.Bool.{leb-true, ltb-true, eqb-true, and_parts}
use Rattle.rows.specs.declared.fault.Fault.{Fault}
use Rattle.rows.specs.declared.fault.FaultKind.{FaultKind}
use Rattle.rows.specs.declared.fault.FaultKind.TheVariants.{TableVersion, TableLength, TableCount, TableNumber, TableWritten}
use Rattle.rows.specs.declared.limits.Limit.TheVariants.{WrittenNumber}
use Rattle.rows.specs.Bytes.{word_at}
use Rattle.rows.specs.Faults.{Said, ◌and_then◌, check}
use Rattle.rows.specs.Limits.{magnitude_of}
use Rattle.rows.specs.Shapes.{first_beyond}
use Rattle.rows.proofs.Chains.{never, check_true}
use Rattle.records.specs.declared.shape.Shape.{Shape}
use Rattle.records.specs.Limits.{most_values, most_choices, most_initial, most_guards, most_transitions, most_places, most_inners}
use Rattle.formats.specs.Pieces.{byte_at, each_says, fault_at, rest_from, version, pieces_from, piece_at, piece_end, piece_says, reach_says, long_says, count_says, above_says, version_says}
use Rattle.formats.specs.Placed.{Placed}
use Rattle.formats.specs.StoredRows.{slot_place, row_at, row_says, rows_say, unless_written}
use Rattle.records.specs.Slots.{over_values, stride, slot_of}
use Rattle.formats.specs.Tables.{values_from, choices_from, start_from, initial_count_from, initial_from, heading_shape, heading_rest, heading_length, heading_says, number_from, left_from, reached_from, guard_count_from, guard_from, updates_from, transition_length, transition_says, next_says, transitions_say, content_says, table_says, memory_says, open_says}
use Rattle.formats.proofs.PieceTests.{found_ends}
use Rattle.formats.proofs.RowItems.{slot_within, slot_place_lem, stride_within}

-- a chain: its first part, and the rest where that passes
pub placed_then : (n : ℕ) (a b : Said) → Placed n a → (a ≡ Ok tt → Placed n b) → Placed n (a and_then b)
placed_then n (Ok tt) b p q = q refl
placed_then n (Err g) b p q = record { place = λ f e. p.place f e }

-- a test that passes has no fault
pub placed_ok : (n : ℕ) → Placed n (Ok tt)
placed_ok n = record { place = λ f e. never f (sym e) }

pub placed_err : (n : ℕ) (g : Fault) → g.place ≤ n → Placed n (Err g)
placed_err n g l = record { place = λ f e. let s : g ≡ f = cc in subst (λ (x : Fault). x.place ≤ n) s l }

pub placed_check : (n p : ℕ) (t : Bool) (k : FaultKind) → p ≤ n → Placed n (check t (fault_at k p))
placed_check n p true k l = placed_ok n
placed_check n p false k l = placed_err n (fault_at k p) l

pub placed_each : (n : ℕ) (test : ℕ → Said) (m : ℕ) → ((i : ℕ) → i < m → Placed n (test i)) → Placed n (each_says test m)
placed_each n test zero h = placed_ok n
placed_each n test (suc m) h = placed_then n (each_says test m) (test m) (placed_each n test m (λ i l. h i (omega arith))) (λ _. h m (omega arith))

-- a row that ends within the rest
pub placed_row : (n : ℕ) (kind : FaultKind) (shape : Shape) (offset : ℕ) (rest : List ℕ) (at : ℕ) → rest_from offset + at + stride shape ≤ n → Placed n (row_says kind shape offset rest at)
unfolding row_says
placed_row n kind shape offset rest at l = from (first_beyond (magnitude_of WrittenNumber) (row_at shape rest at))
  where
    from : (o : Option ℕ) → Placed n (unless_written kind shape (rest_from offset + at) o)
    from None = placed_ok n
    from (Some item) =
        let w = slot_within shape item in
        let p = slot_place_lem (rest_from offset + at) (slot_of shape item) in
        placed_err n (fault_at kind (slot_place (rest_from offset + at) (slot_of shape item))) (omega (arith, w, p, l))

pub placed_rows : (n : ℕ) (kind : FaultKind) (shape : Shape) (offset : ℕ) (rest : List ℕ) (at count : ℕ) → rest_from offset + (at + stride shape * count) ≤ n → Placed n (rows_say kind shape offset rest at count)
placed_rows n kind shape offset rest at count l =
    placed_each n (λ i. row_says kind shape offset rest (at + stride shape * i)) count
    (λ i h. placed_row n kind shape offset rest (at + stride shape * i) (let w = stride_within (stride shape) i count h in omega (arith, w, l)))

-- the tests of a piece whose rest ends within n, each with the tests behind it
module _ (n offset : ℕ) (rest : List ℕ) (within : rest_from offset + length rest ≤ n) where
  pub placed_reach : (kind : FaultKind) (k : ℕ) (d : Said) → (k ≤ length rest → Placed n d) → Placed n (reach_says kind offset rest k and_then d)
  placed_reach kind k d h =
      placed_then n (reach_says kind offset rest k) d (placed_check n offset (leb k (length rest)) kind (omega (arith, within)))
      (λ e. h (leb-true k (length rest) (check_true (leb k (length rest)) (fault_at kind offset) e)))

  pub placed_long : (kind : FaultKind) (k : ℕ) (d : Said) → (length rest ≡ k → Placed n d) → Placed n (long_says kind offset rest k and_then d)
  placed_long kind k d h =
      placed_then n (long_says kind offset rest k) d (placed_check n offset (eqb (length rest) k) kind (omega (arith, within)))
      (λ e. h (eqb-true (length rest) k (check_true (eqb (length rest) k) (fault_at kind offset) e)))

  pub placed_count : (kind : FaultKind) (k least most : ℕ) (d : Said) → k ≤ length rest → Placed n d → Placed n (count_says kind offset rest k least most and_then d)
  placed_count kind k least most d l h =
      placed_then n (count_says kind offset rest k least most) d (placed_check n (rest_from offset + k) (leb least (byte_at rest k) && leb (byte_at rest k) most) kind (omega (arith, within, l))) (λ _. h)

  pub placed_above : (kind : FaultKind) (k least : ℕ) (d : Said) → k ≤ length rest → Placed n d → Placed n (above_says kind offset rest k least and_then d)
  placed_above kind k least d l h =
      placed_then n (above_says kind offset rest k least) d (placed_check n (rest_from offset + k) (ltb least (word_at rest k)) kind (omega (arith, within, l))) (λ _. h)

  pub placed_heading : Placed n (heading_says offset rest)
  unfolding heading_says
  placed_heading =
      placed_reach TableLength (values_from + 1) _ (λ a. placed_count TableCount values_from 1 most_values _ (omega (arith, a))
      (placed_reach TableLength (choices_from + 1) _ (λ b. placed_count TableCount choices_from 0 most_choices _ (omega (arith, b))
      (placed_reach TableLength (initial_count_from + 1) _ (λ c. placed_count TableCount initial_count_from 0 most_initial _ (omega (arith, c))
      (placed_long TableLength (heading_length rest) _ (λ l. placed_above TableNumber start_from 0 _ (omega (arith, l))
      (placed_rows n TableWritten (over_values (heading_shape rest)) offset rest initial_from (byte_at rest initial_count_from) (omega (arith, l, within))))))))))

  pub placed_transition : (shape : Shape) (room last : ℕ) → Placed n (transition_says shape room last offset rest)
  unfolding transition_says
  placed_transition shape room last =
      placed_reach TableLength (guard_count_from + 1) _ (λ a. placed_then n (check (ltb 0 room) (fault_at TableCount offset)) _ (placed_check n offset (ltb 0 room) TableCount (omega (arith, within)))
      (λ _. placed_count TableCount guard_count_from 0 most_guards _ (omega (arith, a))
      (placed_long TableLength (transition_length shape rest) _ (λ l. placed_above TableNumber number_from last _ (omega arith)
      (placed_above TableNumber left_from 0 _ (omega (arith, a)) (placed_above TableNumber reached_from 0 _ (omega (arith, a))
      (placed_then n (rows_say TableWritten (over_values shape) offset rest guard_from (byte_at rest guard_count_from)) _ (placed_rows n TableWritten (over_values shape) offset rest guard_from (byte_at rest guard_count_from) (omega (arith, l, within)))
      (λ _. placed_rows n TableWritten shape offset rest (updates_from shape rest) shape.values (omega (arith, l, within))))))))))

-- a piece that is looked for within the bytes
pub placed_piece : (kind : FaultKind) (bytes : List ℕ) (at : ℕ) → at ≤ length bytes → Placed (length bytes) (piece_says kind bytes at)
unfolding piece_says
placed_piece kind bytes at l =
    placed_then (length bytes) (check (leb (rest_from at) (length bytes)) (fault_at kind at)) (check (leb (piece_end bytes at) (length bytes)) (fault_at kind at))
    (placed_check (length bytes) at (leb (rest_from at) (length bytes)) kind l) (λ _. placed_check (length bytes) at (leb (piece_end bytes at) (length bytes)) kind l)

-- its rest ends within them
pub rest_within : (kind : FaultKind) (bytes : List ℕ) (at : ℕ) → piece_says kind bytes at ≡ Ok tt → rest_from at + length (piece_at bytes at) ≤ length bytes
rest_within kind bytes at e =
    let h = found_ends kind bytes at e in
    let l = length-take (word_at bytes at) (drop (rest_from at) bytes) in
    omega (arith, h, l)

placed_next : (shape : Shape) (bytes : List ℕ) (room last at : ℕ) → at ≤ length bytes → Placed (length bytes) (next_says shape bytes room last at)
placed_next shape bytes room last at l =
    placed_then (length bytes) (piece_says TableLength bytes at) (transition_says shape room last at (piece_at bytes at)) (placed_piece TableLength bytes at l)
    (λ e. placed_transition (length bytes) at (piece_at bytes at) (rest_within TableLength bytes at e) shape room last)

pub placed_where : (n : ℕ) (t : Bool) (said : Said) → (t ≡ true → Placed n said) → Placed n (cond t said (Ok tt))
placed_where n true said h = h refl
placed_where n false said h = placed_ok n

placed_transitions : (shape : Shape) (bytes : List ℕ) (room last at : ℕ) → Placed (length bytes) (transitions_say shape bytes room last at)
unfolding transitions_say
placed_transitions shape bytes zero last at =
    placed_where (length bytes) (ltb at (length bytes)) (next_says shape bytes zero last at) (λ t. placed_next shape bytes zero last at (let l = ltb-true at (length bytes) t in omega (arith, l)))
placed_transitions shape bytes (suc room) last at =
    placed_where (length bytes) (ltb at (length bytes)) _
    (λ t. placed_then (length bytes) (next_says shape bytes (suc room) last at) _ (placed_next shape bytes (suc room) last at (let l = ltb-true at (length bytes) t in omega (arith, l)))
    (λ _. placed_transitions shape bytes room (word_at (piece_at bytes at) number_from) (piece_end bytes at)))

pub placed_table : (bytes : List ℕ) → Placed (length bytes) (table_says bytes)
unfolding content_says
placed_table bytes =
    placed_then (length bytes) (version_says TableVersion bytes) (content_says bytes) (placed_check (length bytes) 0 (leb 1 (length bytes) && eqb (byte_at bytes 0) version) TableVersion (omega arith))
    (λ v. let l = leb-true 1 (length bytes) (and_parts (leb 1 (length bytes)) (eqb (byte_at bytes 0) version) (check_true (leb 1 (length bytes) && eqb (byte_at bytes 0) version) (fault_at TableVersion 0) v)).0 in
    placed_then (length bytes) (piece_says TableLength bytes pieces_from) _ (placed_piece TableLength bytes pieces_from l)
    (λ e. placed_then (length bytes) (heading_says pieces_from (heading_rest bytes)) _ (placed_heading (length bytes) pieces_from (heading_rest bytes) (rest_within TableLength bytes pieces_from e))
    (λ _. placed_transitions (heading_shape (heading_rest bytes)) bytes most_transitions 0 (piece_end bytes pieces_from))))

-- the same with the test of the memory, whose fault is at the front
pub placed_open : (transitions places inners : ℕ) (bytes : List ℕ) → Placed (length bytes) (open_says transitions places inners bytes)
placed_open transitions places inners bytes =
    placed_then (length bytes) (version_says TableVersion bytes) (memory_says transitions places inners and_then content_says bytes) (placed_check (length bytes) 0 (leb 1 (length bytes) && eqb (byte_at bytes 0) version) TableVersion (omega arith))
    (λ v. placed_then (length bytes) (memory_says transitions places inners) (content_says bytes)
    (placed_check (length bytes) 0 (leb most_transitions transitions && (leb most_places places && leb most_inners inners)) TableCount (omega arith))
    (λ _. subst (Placed (length bytes)) (ap (λ (s : Said). s and_then content_says bytes) v) (placed_table bytes)))
