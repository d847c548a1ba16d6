-- Rows as they stand in bytes: an offset that stops at the largest its type holds, and the test of a row's numbers.
use Rattle.std.proofs.Common.{◌≡◌, ℕ, ◌+◌, ◌-◌, ◌*◌, ◌^◌, ◌<◌, ◌≤◌, min, not, ltb, List, length, Some, None, Ok, Err, Option, unwrap_or, sym, refl, ap, ◌∙◌, inl, inr, arith}
use Rattle.std.proofs.lemmas.Nat.{mul-le}
use Rattle.std.proofs.lemmas.List.{get_or_past}
use Rattle.std.proofs.lemmas.Bool.{cases_lt, cond_both, ltb-true}
use Rattle.rows.specs.declared.fault.FaultKind.{FaultKind}
use Rattle.rows.specs.declared.limits.Limit.TheVariants.{WrittenNumber}
use Rattle.rows.specs.Bytes.{long_at, signed, number_at}
use Rattle.rows.specs.Limits.{columns, items, magnitude_of}
use Rattle.rows.specs.Made.{FirstOver}
use Rattle.rows.specs.Shapes.{Within, first_beyond}
use Rattle.rows.proofs.First.{none_first, some_first}
use Rattle.records.specs.declared.shape.Shape.{Shape}
use Rattle.records.specs.Limits.{most_values}
use Rattle.formats.specs.Pieces.{fault_at, rest_from}
use Rattle.formats.specs.StoredRows.{slot_number, slot_place, item_at, row_at, row_says, unless_written}
use Rattle.records.specs.Slots.{number_bytes, slot_of}

-- a long past the end is zero
long_past : (bytes : List ℕ) (at : ℕ) → length bytes ≤ at → long_at bytes at ≡ 0
long_past bytes at l =
    let a = get_or_past bytes at 0 l in
    let b = get_or_past bytes (at + 1) 0 (omega arith) in
    let c = get_or_past bytes (at + 2) 0 (omega arith) in
    let d = get_or_past bytes (at + 2 + 1) 0 (omega arith) in
    rw (a, b, c, d)

pub number_capped : (bytes : List ℕ) (at n : ℕ) → length bytes < 2 ^ 64 → number_at bytes (min (at + n) (2 ^ 64 - 1)) ≡ number_at bytes (at + n)
number_capped bytes at n short =
    elim (cases_lt (at + n) (2 ^ 64)) [
      | inl l ↦ ap (number_at bytes) (omega arith)
      | inr l ↦ ap signed (long_past bytes (min (at + n) (2 ^ 64 - 1)) (omega arith) ∙ sym (long_past bytes (at + n) (omega arith)))
    ]

-- the item that the code reads
pub item_none : (shape : Shape) (bytes : List ℕ) (at item : ℕ) → None ≡ slot_of shape item → slot_number bytes at None ≡ item_at shape bytes at item
unfolding item_at
item_none shape bytes at item e = ap (slot_number bytes at) e

pub item_some : (shape : Shape) (bytes : List ℕ) (at item slot : ℕ) → Some slot ≡ slot_of shape item → slot_number bytes at (Some slot) ≡ item_at shape bytes at item
unfolding item_at
item_some shape bytes at item slot e = ap (slot_number bytes at) e

-- a written number in a slot stands within the row
pub slot_within : (shape : Shape) (item : ℕ) → unwrap_or (slot_of shape item) 0 ≤ shape.values + shape.choices
slot_within shape item =
    cond_both (ltb item columns) _ _ (λ o. unwrap_or o 0 ≤ shape.values + shape.choices)
    (λ _. cond_both (ltb item most_values) _ _ (λ o. unwrap_or o 0 ≤ shape.values + shape.choices)
    (λ _. cond_both (ltb item shape.values) (Some item) None (λ o. unwrap_or o 0 ≤ shape.values + shape.choices) (λ e. let l = ltb-true _ _ e in omega arith) (λ _. omega arith))
    (λ _. cond_both (ltb (item - most_values) shape.choices) (Some (shape.values + (item - most_values))) None (λ o. unwrap_or o 0 ≤ shape.values + shape.choices) (λ e. let l = ltb-true _ _ e in omega arith) (λ _. omega arith)))
    (λ _. omega arith)

pub slot_place_lem : (at : ℕ) (o : Option ℕ) → at + number_bytes * unwrap_or o 0 ≡ slot_place at o
slot_place_lem at None = omega arith
slot_place_lem at (Some slot) = refl

-- the test of a row whose numbers are all written, and of one with a first number that is too large
module _ (kind : FaultKind) (shape : Shape) (offset : ℕ) (bytes : List ℕ) (at : ℕ) where
  pub row_written : Within (magnitude_of WrittenNumber) (row_at shape bytes at) → Ok tt ≡ row_says kind shape offset bytes at
  unfolding row_says first_beyond
  row_written w = sym (ap (unless_written kind shape (rest_from offset + at)) (none_first _ items (λ k l. ap not (w k l))))

  pub row_too_large : (item place : ℕ) → FirstOver (magnitude_of WrittenNumber) (row_at shape bytes at) item → place ≡ rest_from offset + at + number_bytes * unwrap_or (slot_of shape item) 0 → Err (fault_at kind place) ≡ row_says kind shape offset bytes at
  unfolding row_says first_beyond
  row_too_large item place h e =
      ap (λ (p : ℕ). Err (fault_at kind p)) (e ∙ slot_place_lem (rest_from offset + at) (slot_of shape item))
      ∙ sym (ap (unless_written kind shape (rest_from offset + at)) (some_first _ items item h.0 h.1 h.2))

-- an element of a range, by its size, lies before the range's end
pub stride_within : (size i n : ℕ) → i < n → size * i + size ≤ size * n
stride_within size i n l = let m = mul-le size (i + 1) size n (omega arith) (omega arith) in omega (arith, m)
