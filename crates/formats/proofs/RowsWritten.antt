-- Rows and their bytes, both ways: a row whose numbers are written is read back from its bytes, and the bytes that a row is
-- read from are those it is written in.
use Rattle.std.proofs.Common.{◌≡◌, ℕ, zero, suc, ◌+◌, ◌-◌, ◌*◌, ◌<◌, ◌≤◌, true, leb, ◌⊎◌, List, [], ◌∷◌, ◌++◌, length, get_or, ℤ, pos, negsuc, Some, None, Ok, Option, sym, refl, ap, ◌∙◌, subst, inl, inr, arith}
use Rattle.std.proofs.lemmas.List.FromFn.{length-range_with_len, get_or-range_with_len, length-map-range_with_len, get_or-map-range_with_len, fill_by_all}
use Rattle.std.proofs.ByRecursion.{All-get_or, All-from_get_or}
use Rattle.std.proofs.lemmas.List.{length-append, get_or_append_left, get_or-append_right}
use Rattle.std.proofs.lemmas.Bool.{cases_lt, lt-ltb, le-ltb, leb-true, and_parts, not-false}
use Rattle.std.specs.List.{range_with_len, AllByRecursion}
use Rattle.rows.specs.declared.fault.FaultKind.{FaultKind}
use Rattle.rows.specs.declared.limits.Limit.TheVariants.{WrittenNumber}
use Rattle.rows.specs.declared.numbers.Numbers.{Numbers}
use Rattle.rows.specs.Faults.{Said}
use Rattle.rows.specs.Limits.{columns, items, magnitude_of, within}
use Rattle.rows.specs.Shapes.{item_of, beyond, first_beyond, Within}
use Rattle.rows.proofs.Chains.{goes, both, never}
use Rattle.rows.proofs.First.{first_none}
use Rattle.rows.proofs.Items.{item_column, item_bound, same_numbers}
use Rattle.records.specs.declared.shape.Shape.{Shape}
use Rattle.records.specs.Limits.{most_values}
use Rattle.records.specs.Slots.{number_bytes, stride, slot_of}
use Rattle.formats.specs.Pieces.{each, each_says, rest_from}
use Rattle.formats.specs.StoredRows.{item_at, row_at, row_says, rows_at, rows_say, unless_written}
use Rattle.formats.specs.Valid.{ShapeWithin, StoredRow}
use Rattle.formats.specs.Writing.{AreBytes, signed_bytes, stored_items, row_bytes, rows_bytes}
use Rattle.formats.proofs.RowItems.{item_none, item_some, row_written, stride_within}
use Rattle.formats.proofs.Segments.{cut, Fits, Stands, stands_behind, number_back, number_only, joined_length, joined_stands, joined_only}

-- which slot an item has
module _ (shape : Shape) (item : ℕ) where
  slot_value : item < most_values → item < shape.values → slot_of shape item ≡ Some item
  slot_value l m =
      let a = lt-ltb item columns (omega arith) in
      let b = lt-ltb item most_values l in
      let c = lt-ltb item shape.values m in
      rw (a, b, c)

  slot_no_value : item < most_values → shape.values ≤ item → slot_of shape item ≡ None
  slot_no_value l m =
      let a = lt-ltb item columns (omega arith) in
      let b = lt-ltb item most_values l in
      let c = le-ltb item shape.values m in
      rw (a, b, c)

  slot_choice : most_values ≤ item → item < columns → item < most_values + shape.choices → slot_of shape item ≡ Some (shape.values + (item - most_values))
  slot_choice l m h =
      let a = lt-ltb item columns m in
      let b = le-ltb item most_values l in
      let c = lt-ltb (item - most_values) shape.choices (omega arith) in
      rw (a, b, c)

  slot_no_choice : most_values ≤ item → item < columns → most_values + shape.choices ≤ item → slot_of shape item ≡ None
  slot_no_choice l m h =
      let a = lt-ltb item columns m in
      let b = le-ltb item most_values l in
      let c = le-ltb (item - most_values) shape.choices (omega arith) in
      rw (a, b, c)

  slot_bound : columns ≤ item → slot_of shape item ≡ Some (shape.values + shape.choices)
  slot_bound l = let a = le-ltb item columns l in rw a

-- which item a slot is for
module _ (shape : Shape) where
  items_length : length (stored_items shape) ≡ shape.values + shape.choices + 1
  items_length =
      let a = length-append (range_with_len 0 shape.values) (range_with_len most_values shape.choices ++ columns ∷ []) in
      let b = length-append (range_with_len most_values shape.choices) (columns ∷ []) in
      let c = length-range_with_len 0 shape.values in
      let d = length-range_with_len most_values shape.choices in
      omega arith

  -- behind the values
  item_behind : (k : ℕ) → shape.values ≤ k → get_or (stored_items shape) k 0 ≡ get_or (range_with_len most_values shape.choices ++ columns ∷ []) (k - shape.values) 0
  item_behind k l = get_or-append_right (range_with_len 0 shape.values) (range_with_len most_values shape.choices ++ columns ∷ []) shape.values k 0 (length-range_with_len 0 shape.values) l

  item_value : (k : ℕ) → k < shape.values → get_or (stored_items shape) k 0 ≡ k
  item_value k l =
      let n = length-range_with_len 0 shape.values in
      get_or_append_left (range_with_len 0 shape.values) (range_with_len most_values shape.choices ++ columns ∷ []) 0 k (omega arith)
      ∙ get_or-range_with_len 0 shape.values k 0 l ∙ omega arith

  item_choice : (k : ℕ) → shape.values ≤ k → k < shape.values + shape.choices → get_or (stored_items shape) k 0 ≡ most_values + (k - shape.values)
  item_choice k l h =
      let n = length-range_with_len most_values shape.choices in
      item_behind k l
      ∙ get_or_append_left (range_with_len most_values shape.choices) (columns ∷ []) 0 (k - shape.values) (omega arith)
      ∙ get_or-range_with_len most_values shape.choices (k - shape.values) 0 (omega arith)

  item_last : (k : ℕ) → k ≡ shape.values + shape.choices → get_or (stored_items shape) k 0 ≡ columns
  item_last k h =
      let z : k - shape.values - shape.choices ≡ 0 = omega arith in
      item_behind k (omega arith)
      ∙ get_or-append_right (range_with_len most_values shape.choices) (columns ∷ []) shape.choices (k - shape.values) 0 (length-range_with_len most_values shape.choices) (omega arith)
      ∙ ap (λ (i : ℕ). get_or (columns ∷ []) i 0) z

-- the slot of an item, if it has one, is where the item stands among those stored
record Slotted (shape : Shape) (item : ℕ) : Type 0 where
  pub slot : ℕ
  pub here : Some slot ≡ slot_of shape item
  pub inside : slot < length (stored_items shape)
  pub item_is : get_or (stored_items shape) slot 0 ≡ item

-- an item without a slot is a column of another value or choice
abbrev Unslotted : Shape → ℕ → Type 0
Unslotted shape item = (None ≡ slot_of shape item) × (((shape.values ≤ item) × (item < most_values)) ⊎ ((most_values + shape.choices ≤ item) × (item < columns)))

slotted : (shape : Shape) (item : ℕ) → item < items → Slotted shape item ⊎ Unslotted shape item
slotted shape item l =
    let n = items_length shape in
    elim (cases_lt item most_values) [
      | inl v ↦ elim (cases_lt item shape.values) [
        | inl h ↦ inl (record { slot = item; here = sym (slot_value shape item v h); inside = omega arith; item_is = item_value shape item h })
        | inr h ↦ inr (sym (slot_no_value shape item v h), inl (h, v))
      ]
      | inr v ↦ elim (cases_lt item columns) [
        | inl c ↦ elim (cases_lt item (most_values + shape.choices)) [
          | inl h ↦ inl (record { slot = shape.values + (item - most_values); here = sym (slot_choice shape item v c h); inside = omega arith; item_is = item_choice shape (shape.values + (item - most_values)) (omega arith) (omega arith) ∙ omega arith })
          | inr h ↦ inr (sym (slot_no_choice shape item v c h), inr (h, c))
        ]
        | inr c ↦ inl (record { slot = shape.values + shape.choices; here = sym (slot_bound shape item c); inside = omega arith; item_is = item_last shape (shape.values + shape.choices) refl ∙ omega arith })
      ]
    ]

-- and the other way: the item at a place among those stored has that place as its slot
stored_slot : (shape : Shape) → ShapeWithin shape → (k : ℕ) → k < length (stored_items shape) → (get_or (stored_items shape) k 0 < items) × (Some k ≡ slot_of shape (get_or (stored_items shape) k 0))
stored_slot shape w k l =
    let n = items_length shape in
    let v = w.values in
    let c = w.choices in
    elim (cases_lt k shape.values) [
      | inl h ↦
          let e = item_value shape k h in
          (omega arith, sym (ap (slot_of shape) e ∙ slot_value shape k (omega arith) h))
      | inr h ↦ elim (cases_lt k (shape.values + shape.choices)) [
        | inl m ↦
            let e = item_choice shape k h m in
            let z : shape.values + (most_values + (k - shape.values) - most_values) ≡ k = omega arith in
            (omega arith, sym (ap (slot_of shape) e ∙ slot_choice shape (most_values + (k - shape.values)) (omega arith) (omega arith) (omega arith) ∙ ap (λ (i : ℕ). Some i) z))
        | inr m ↦
            let q : k ≡ shape.values + shape.choices = omega arith in
            let e = item_last shape k q in
            (omega arith, sym (ap (slot_of shape) e ∙ slot_bound shape columns (omega arith) ∙ ap (λ (i : ℕ). Some i) (sym q)))
      ]
    ]

-- the items of the row that is read
module _ (shape : Shape) (bytes : List ℕ) (at : ℕ) where
  column_read : (k : ℕ) → k < columns → get_or (row_at shape bytes at).coefficients k (pos 0) ≡ item_at shape bytes at k
  column_read k l = get_or-map-range_with_len (item_at shape bytes at) 0 columns k k (pos 0) l (omega arith)

  item_read : (k : ℕ) → k < items → item_of (row_at shape bytes at) k ≡ item_at shape bytes at k
  item_read k l =
      elim (cases_lt k columns) [
        | inl h ↦ item_column (row_at shape bytes at) k h ∙ column_read k h
        | inr h ↦ let e : columns ≡ k = omega arith in item_bound (row_at shape bytes at) k h ∙ ap (item_at shape bytes at) e
      ]

-- the bytes of a row are as many as its stride
pub row_length : (shape : Shape) (row : Numbers) → length (row_bytes shape row) ≡ stride shape
row_length shape row =
    let n = items_length shape in
    joined_length (λ (item : ℕ). signed_bytes (item_of row item)) number_bytes (λ _. refl) (stored_items shape) ∙ omega arith

pub rows_length : (shape : Shape) (rows : List Numbers) → length (rows_bytes shape rows) ≡ stride shape * length rows
rows_length shape rows = joined_length (row_bytes shape) (stride shape) (row_length shape) rows

-- a written number fits its bytes
written_fits : (z : ℤ) → within (magnitude_of WrittenNumber) z ≡ true → Fits z
written_fits (pos n) e = let l = leb-true n 1000000 e in omega arith
written_fits (negsuc n) e = let l = leb-true n 999999 (and_parts (leb n 999999) true e).0 in omega arith

-- a row read from where its bytes stand
module _ (shape : Shape) (row : Numbers) (valid : StoredRow shape row) (bytes : List ℕ) (at : ℕ) (stands : Stands bytes at (row_bytes shape row)) where
  slot_back : (item : ℕ) → item < items → Slotted shape item → item_at shape bytes at item ≡ item_of row item
  slot_back item l s =
      let f = written_fits (item_of row item) (valid.written item l) in
      let h = joined_stands (λ (i : ℕ). signed_bytes (item_of row i)) number_bytes (λ _. refl) bytes at (stored_items shape) stands s.slot 0 s.inside in
      sym (item_some shape bytes at item s.slot s.here)
      ∙ number_back bytes (at + number_bytes * s.slot) (item_of row item) f (subst (λ (i : ℕ). Stands bytes (at + number_bytes * s.slot) (signed_bytes (item_of row i))) s.item_is h)

  unslotted_back : (item : ℕ) → Unslotted shape item → item_at shape bytes at item ≡ item_of row item
  unslotted_back item u =
      sym (item_none shape bytes at item u.0)
      ∙ elim u.1 [
        | inl h ↦ sym (item_column row item (omega arith) ∙ valid.other_values item h.0 h.1)
        | inr h ↦ sym (item_column row item h.1 ∙ valid.other_choices item h.0 h.1)
      ]

  item_back : (item : ℕ) → item < items → item_at shape bytes at item ≡ item_of row item
  item_back item l = elim (slotted shape item l) [ inl s ↦ slot_back item l s | inr u ↦ unslotted_back item u ]

  pub row_standing : row_at shape bytes at ≡ row
  row_standing =
      same_numbers (each (item_at shape bytes at) columns) row.coefficients (item_at shape bytes at columns) row.bound
      (sym (fill_by_all (item_at shape bytes at) row.coefficients columns (pos 0) valid.sized (λ k l. sym (item_back k (omega arith) ∙ item_column row k l))))
      (item_back columns (omega arith) ∙ item_bound row columns (omega arith))

  pub row_standing_passes : (kind : FaultKind) (offset : ℕ) → row_says kind shape offset bytes at ≡ Ok tt
  row_standing_passes kind offset =
      sym (row_written kind shape offset bytes at (subst (λ (r : Numbers). Within (magnitude_of WrittenNumber) r) (sym row_standing) valid.written))

pub row_back : (shape : Shape) → ShapeWithin shape → (row : Numbers) → StoredRow shape row → (front more : List ℕ) → row_at shape (front ++ (row_bytes shape row ++ more)) (length front) ≡ row
row_back shape w row valid front more = row_standing shape row valid (front ++ (row_bytes shape row ++ more)) (length front) (stands_behind front (row_bytes shape row) more)

pub row_passes : (kind : FaultKind) (shape : Shape) → ShapeWithin shape → (row : Numbers) → StoredRow shape row → (offset : ℕ) (front more : List ℕ) → row_says kind shape offset (front ++ (row_bytes shape row ++ more)) (length front) ≡ Ok tt
row_passes kind shape w row valid offset front more =
    row_standing_passes shape row valid (front ++ (row_bytes shape row ++ more)) (length front) (stands_behind front (row_bytes shape row) more) kind offset

-- tests over a range, and each of them
pub each_pass : (test : ℕ → Said) (n : ℕ) → ((i : ℕ) → i < n → test i ≡ Ok tt) → each_says test n ≡ Ok tt
each_pass test zero h = refl
each_pass test (suc n) h = sym (goes (each_says test n) (test n) (Ok tt) (sym (each_pass test n (λ i l. h i (omega arith)))) (sym (h n (omega arith))))

pub each_passed : (test : ℕ → Said) (n : ℕ) → each_says test n ≡ Ok tt → (i : ℕ) → i < n → test i ≡ Ok tt
each_passed test zero e i l = absurd (omega arith)
each_passed test (suc n) e i l =
    let p = both (each_says test n) (test n) e in
    elim (cases_lt i n) [
      | inl h ↦ each_passed test n p.0 i h
      | inr h ↦ let q : n ≡ i = omega arith in sym (ap test q) ∙ p.1
    ]

no_numbers : Numbers
no_numbers = record { coefficients = []; bound = pos 0 }

-- rows read from where their bytes stand
module _ (shape : Shape) (rows : List Numbers) (valid : AllByRecursion (StoredRow shape) rows) (bytes : List ℕ) (at : ℕ) (stands : Stands bytes at (rows_bytes shape rows)) where
  each_stands : (k : ℕ) → k < length rows → Stands bytes (at + stride shape * k) (row_bytes shape (get_or rows k no_numbers))
  each_stands k l = joined_stands (row_bytes shape) (stride shape) (row_length shape) bytes at rows stands k no_numbers l

  each_valid : (k : ℕ) → k < length rows → StoredRow shape (get_or rows k no_numbers)
  each_valid k l = All-get_or (StoredRow shape) rows k no_numbers l valid

  pub rows_standing : rows_at shape bytes at (length rows) ≡ rows
  rows_standing =
      sym (fill_by_all (λ (i : ℕ). row_at shape bytes (at + stride shape * i)) rows (length rows) no_numbers refl
      (λ k l. sym (row_standing shape (get_or rows k no_numbers) (each_valid k l) bytes (at + stride shape * k) (each_stands k l))))

  pub rows_standing_pass : (kind : FaultKind) (offset : ℕ) → rows_say kind shape offset bytes at (length rows) ≡ Ok tt
  rows_standing_pass kind offset =
      each_pass (λ (i : ℕ). row_says kind shape offset bytes (at + stride shape * i)) (length rows)
      (λ k l. row_standing_passes shape (get_or rows k no_numbers) (each_valid k l) bytes (at + stride shape * k) (each_stands k l) kind offset)

pub rows_back : (shape : Shape) → ShapeWithin shape → (rows : List Numbers) → AllByRecursion (StoredRow shape) rows → (front more : List ℕ) → rows_at shape (front ++ (rows_bytes shape rows ++ more)) (length front) (length rows) ≡ rows
rows_back shape w rows valid front more = rows_standing shape rows valid (front ++ (rows_bytes shape rows ++ more)) (length front) (stands_behind front (rows_bytes shape rows) more)

pub rows_pass : (kind : FaultKind) (shape : Shape) → ShapeWithin shape → (rows : List Numbers) → AllByRecursion (StoredRow shape) rows → (offset : ℕ) (front more : List ℕ) → rows_say kind shape offset (front ++ (rows_bytes shape rows ++ more)) (length front) (length rows) ≡ Ok tt
rows_pass kind shape w rows valid offset front more =
    rows_standing_pass shape rows valid (front ++ (rows_bytes shape rows ++ more)) (length front) (stands_behind front (rows_bytes shape rows) more) kind offset

-- the bytes of the row that is read
pub row_only : (shape : Shape) → ShapeWithin shape → (bytes : List ℕ) → AreBytes bytes → (at : ℕ) → at + stride shape ≤ length bytes → row_bytes shape (row_at shape bytes at) ≡ cut at (stride shape) bytes
row_only shape w bytes bs at l =
    let n = items_length shape in
    let s : number_bytes * length (stored_items shape) ≡ stride shape = omega arith in
    joined_only (λ (item : ℕ). signed_bytes (item_of (row_at shape bytes at) item)) number_bytes bytes at (stored_items shape) 0
    (λ k h. let p = stored_slot shape w k h in
    ap signed_bytes (item_read shape bytes at (get_or (stored_items shape) k 0) p.0 ∙ sym (item_some shape bytes at (get_or (stored_items shape) k 0) k p.1))
    ∙ number_only bytes bs (at + number_bytes * k) (omega arith))
    ∙ ap (λ (i : ℕ). cut at i bytes) s

pub rows_only : (shape : Shape) → ShapeWithin shape → (bytes : List ℕ) → AreBytes bytes → (at count : ℕ) → at + stride shape * count ≤ length bytes → rows_bytes shape (rows_at shape bytes at count) ≡ cut at (stride shape * count) bytes
rows_only shape w bytes bs at count l =
    let f : ℕ → Numbers = λ i. row_at shape bytes (at + stride shape * i) in
    let n = length-map-range_with_len f 0 count in
    joined_only (row_bytes shape) (stride shape) bytes at (rows_at shape bytes at count) no_numbers
    (λ k h. let m : k < count = omega arith in
    let s = stride_within (stride shape) k count m in
    ap (row_bytes shape) (get_or-map-range_with_len f 0 count k k no_numbers m (omega arith))
    ∙ row_only shape w bytes bs (at + stride shape * k) (omega (arith, s, l)))
    ∙ ap (λ (i : ℕ). cut at (stride shape * i) bytes) n

-- a row that passes its test is valid
written_none : (kind : FaultKind) (shape : Shape) (place : ℕ) (o : Option ℕ) → unless_written kind shape place o ≡ Ok tt → o ≡ None
written_none kind shape place None e = refl
written_none kind shape place (Some item) e = never _ e

row_within : (kind : FaultKind) (shape : Shape) (offset : ℕ) (bytes : List ℕ) (at : ℕ) → row_says kind shape offset bytes at ≡ Ok tt → Within (magnitude_of WrittenNumber) (row_at shape bytes at)
unfolding row_says first_beyond
row_within kind shape offset bytes at e k l =
    let most = magnitude_of WrittenNumber in
    let none = written_none kind shape (rest_from offset + at) (first_beyond most (row_at shape bytes at)) e in
    not-false (within most (item_of (row_at shape bytes at) k)) (first_none (beyond most (row_at shape bytes at)) items none k l)

pub row_valid : (kind : FaultKind) (shape : Shape) → ShapeWithin shape → (offset : ℕ) (bytes : List ℕ) (at : ℕ) → row_says kind shape offset bytes at ≡ Ok tt → StoredRow shape (row_at shape bytes at)
row_valid kind shape w offset bytes at e =
    record {
      sized = length-map-range_with_len (item_at shape bytes at) 0 columns;
      other_values = λ k l m. column_read shape bytes at k (omega arith) ∙ sym (item_none shape bytes at k (sym (slot_no_value shape k m l)));
      other_choices = λ k l m. column_read shape bytes at k m ∙ sym (item_none shape bytes at k (sym (slot_no_choice shape k (omega arith) m l)));
      written = row_within kind shape offset bytes at e;
    }

pub rows_valid : (kind : FaultKind) (shape : Shape) → ShapeWithin shape → (offset : ℕ) (bytes : List ℕ) (at count : ℕ) → rows_say kind shape offset bytes at count ≡ Ok tt → AllByRecursion (StoredRow shape) (rows_at shape bytes at count)
rows_valid kind shape w offset bytes at count e =
    let f : ℕ → Numbers = λ i. row_at shape bytes (at + stride shape * i) in
    let n = length-map-range_with_len f 0 count in
    All-from_get_or (StoredRow shape) (rows_at shape bytes at count) no_numbers
    (λ k h. let m : k < count = omega arith in
    subst (StoredRow shape) (sym (get_or-map-range_with_len f 0 count k k no_numbers m (omega arith)))
    (row_valid kind shape w offset bytes (at + stride shape * k) (each_passed (λ (i : ℕ). row_says kind shape offset bytes (at + stride shape * i)) count e k m)))
