-- The row that strengthen or restrict adds is a stored row, the witness with it still fits its table, and every place and
-- inner transition of the witness is in the new one, with the same number and plan or choices and with its rows in front.
use Rattle.std.proofs.Common.{◌≡◌, ℕ, ◌+◌, ◌-◌, ◌<◌, ◌≤◌, Bool, true, false, cond, eqb, ltb, List, [], ◌∷◌, ◌++◌, map, length, get_or, ℤ, pos, Some, None, Ok, Option, sym, refl, ap, ◌∙◌, subst, inl, inr, arith}
use Rattle.std.proofs.lemmas.List.FromFn.{length-map-range_with_len, get_or-map-range_with_len}
use Rattle.std.proofs.ByRecursion.{All-push}
use Rattle.std.proofs.lemmas.List.{length-append}
use Rattle.std.proofs.lemmas.Bool.{lt-ltb, le-ltb, ltb-true, and_parts, cases_lt}
use Rattle.std.specs.List.{AllByRecursion}
use Rattle.rows.specs.declared.fault.FaultKind.TheVariants.{AddedNumbers, AddedRowsFull}
use Rattle.rows.specs.declared.limits.Limit.TheVariants.{WrittenNumber}
use Rattle.rows.specs.declared.numbers.Numbers.{Numbers}
use Rattle.rows.specs.Faults.{check}
use Rattle.rows.specs.Limits.{columns, items, magnitude_of, within}
use Rattle.rows.specs.Shapes.{item_of}
use Rattle.rows.proofs.Chains.{both, check_true}
use Rattle.rows.proofs.Items.{item_column, item_bound}
use Rattle.records.specs.declared.shape.Shape.{Shape}
use Rattle.records.specs.Limits.{most_values, most_conditions, most_restrictions}
use Rattle.records.specs.Lists.{first_with, among}
use Rattle.records.specs.Records.{TransitionData, TableData, PlaceData, InnerData, WitnessData, shape_of}
use Rattle.records.specs.Slots.{over_values, slot_of}
use Rattle.formats.specs.Valid.{StoredRow, StoredRows, Rising, Transition-is, ValidPlace, ValidInner, ValidWitness, PlanFits, InnerFits, place_numbers, inner_numbers}
use Rattle.semantics.specs.Plans.{inner_with, place_with}
use Rattle.semantics.specs.Runs.{Member}
use Rattle.semantics.proofs.Members.{same_some}
use Rattle.cases.specs.Told.{bare, all_within, numbers_fit, slotted, added_row, add_told}
use Rattle.cases.specs.Worked.{changed_first, strengthened_place, restricted_inner}
use Rattle.cases.proofs.Steps.{numbers_within}

-- the first record with a number, changed
module _ {X : Type 0} (num : X → ℕ) (n : ℕ) (f : X → X) where
  -- what holds of each record and of the changed one holds of each afterwards
  pub changed_all : (P : X → Type 0) (xs : List X) → AllByRecursion P xs → ((x : X) → first_with num n xs ≡ Some x → P x → P (f x)) → AllByRecursion P (changed_first num n f xs)
  changed_all P [] a h = tt
  changed_all P (x ∷ xs) a h = from (eqb (num x) n) h (λ k. changed_all P xs a.1 k)
    where
      from : (b : Bool) → ((y : X) → cond b (Some x) (first_with num n xs) ≡ Some y → P y → P (f y)) → (((y : X) → first_with num n xs ≡ Some y → P y → P (f y)) → AllByRecursion P (changed_first num n f xs)) → AllByRecursion P (cond b (f x ∷ xs) (x ∷ changed_first num n f xs))
      from true k r = (k x refl a.0, a.1)
      from false k r = (a.0, r k)

  -- numbers that do not change
  pub changed_numbers : ((x : X) → num (f x) ≡ num x) → (xs : List X) → map num (changed_first num n f xs) ≡ map num xs
  changed_numbers same [] = refl
  changed_numbers same (x ∷ xs) = from (eqb (num x) n) (changed_numbers same xs)
    where
      from : (b : Bool) → map num (changed_first num n f xs) ≡ map num xs → map num (cond b (f x ∷ xs) (x ∷ changed_first num n f xs)) ≡ num x ∷ map num xs
      from true r = ap (λ (k : ℕ). k ∷ map num xs) (same x)
      from false r = ap (λ (ks : List ℕ). num x ∷ ks) r

  pub changed_length : (xs : List X) → length (changed_first num n f xs) ≡ length xs
  changed_length [] = refl
  changed_length (x ∷ xs) = from (eqb (num x) n) (changed_length xs)
    where
      from : (b : Bool) → length (changed_first num n f xs) ≡ length xs → length (cond b (f x ∷ xs) (x ∷ changed_first num n f xs)) ≡ length (x ∷ xs)
      from true r = refl
      from false r = omega arith

  -- each record goes over into one, and each comes from one
  module _ (R : X → X → Type 0) (kept : (x : X) → R x x) (made : (x : X) → R x (f x)) where
    pub member_changed : (xs : List X) (x : X) → Member x xs → (y : X) × Member y (changed_first num n f xs) × R x y
    member_changed [] x m = absurd m
    member_changed (z ∷ zs) x m = from (eqb (num z) n) m (λ k. member_changed zs x k)
      where
        from : (b : Bool) → Member x (z ∷ zs) → (Member x zs → (y : X) × Member y (changed_first num n f zs) × R x y) → (y : X) × Member y (cond b (f z ∷ zs) (z ∷ changed_first num n f zs)) × R x y
        from true (inl e) r = (f z, inl refl, subst (λ v. R v (f z)) e (made z))
        from true (inr k) r = (x, inr k, kept x)
        from false (inl e) r = (z, inl refl, subst (λ v. R v z) e (kept z))
        from false (inr k) r = let h = r k in (h.0, inr h.1, h.2)

    pub changed_member : (xs : List X) (y : X) → Member y (changed_first num n f xs) → (x : X) × Member x xs × R x y
    changed_member [] y m = absurd m
    changed_member (z ∷ zs) y m = from (eqb (num z) n) m (λ k. changed_member zs y k)
      where
        from : (b : Bool) → Member y (cond b (f z ∷ zs) (z ∷ changed_first num n f zs)) → (Member y (changed_first num n f zs) → (x : X) × Member x zs × R x y) → (x : X) × Member x (z ∷ zs) × R x y
        from true (inl e) r = (z, inl refl, subst (R z) e (made z))
        from true (inr k) r = (y, inr k, kept y)
        from false (inl e) r = (z, inl refl, subst (R z) e (kept z))
        from false (inr k) r = let h = r k in (h.0, inr h.1, h.2)

-- the row of a caller's numbers
module _ (shape : Shape) (numbers : List ℤ) where
  abbrev item : ℕ → ℤ
  item k = slotted numbers (slot_of shape k)

  column_is : (k : ℕ) → k < columns → get_or (added_row shape numbers).coefficients k (pos 0) ≡ item k
  column_is k l = get_or-map-range_with_len item 0 columns k k (pos 0) l (omega arith)

  item_is : (k : ℕ) → k < items → item_of (added_row shape numbers) k ≡ item k
  item_is k l =
      elim (cases_lt k columns) [
        | inl h ↦ item_column (added_row shape numbers) k h ∙ column_is k h
        | inr h ↦ let e : columns ≡ k = omega arith in item_bound (added_row shape numbers) k h ∙ ap item e
      ]

  -- zero in the columns that the shape does not use
  no_value : (k : ℕ) → shape.values ≤ k → k < most_values → item k ≡ pos 0
  no_value k l h =
      let a = lt-ltb k columns (omega arith) in
      let b = lt-ltb k most_values h in
      let c = le-ltb k shape.values l in
      rw (a, b, c)

  no_choice : (k : ℕ) → most_values + shape.choices ≤ k → k < columns → item k ≡ pos 0
  no_choice k l h =
      let a = lt-ltb k columns h in
      let b = le-ltb k most_values (omega arith) in
      let c = le-ltb (k - most_values) shape.choices (omega arith) in
      rw (a, b, c)

  slotted_within : (most : ℕ) → within most (pos 0) ≡ true → all_within most numbers ≡ true → (o : Option ℕ) → within most (slotted numbers o) ≡ true
  slotted_within most z w None = z
  slotted_within most z w (Some slot) = numbers_within most numbers z w slot

  pub added_stored : all_within (magnitude_of WrittenNumber) numbers ≡ true → StoredRow shape (added_row shape numbers)
  added_stored w =
      record {
        sized = length-map-range_with_len item 0 columns;
        other_values = λ k l h. column_is k (omega arith) ∙ no_value k l h;
        other_choices = λ k l h. column_is k h ∙ no_choice k l h;
        written = λ k l. ap (within (magnitude_of WrittenNumber)) (item_is k l) ∙ slotted_within (magnitude_of WrittenNumber) refl w (slot_of shape k);
      }

  -- one row more, where there is room
  pub rows_added : (most : ℕ) (rows : List Numbers) → StoredRows shape most rows → add_told shape most rows numbers ≡ Ok tt → StoredRows shape most (rows ++ added_row shape numbers ∷ [])
  rows_added most rows s e =
      let count = shape.values + shape.choices + 1 in
      let fit = numbers_fit (magnitude_of WrittenNumber) count numbers in
      let p = both (check fit (bare AddedNumbers)) (check (ltb (length rows) most) (bare AddedRowsFull)) e in
      let w = (and_parts (eqb (length numbers) count) (all_within (magnitude_of WrittenNumber) numbers) (check_true fit (bare AddedNumbers) p.0)).1 in
      let l = ltb-true (length rows) most (check_true (ltb (length rows) most) (bare AddedRowsFull) p.1) in
      let n = length-append rows (added_row shape numbers ∷ []) in
      record {
        count = omega arith;
        each = All-push (StoredRow shape) rows (added_row shape numbers) s.each (added_stored w);
      }

-- the witness with a condition row or a restriction row more
module _ (table : TableData) (w : WitnessData) (number : ℕ) (numbers : List ℤ) where
  abbrev pub shape : Shape
  shape = shape_of table.heading

  abbrev strengthened_by : PlaceData → PlaceData
  strengthened_by = strengthened_place (added_row (over_values shape) numbers)

  abbrev restricted_by : InnerData → InnerData
  restricted_by = restricted_inner (added_row shape numbers)

  abbrev pub strengthened : WitnessData
  strengthened = record { places = changed_first (λ p. p.number) number strengthened_by w.places; inners = w.inners }

  abbrev pub restricted : WitnessData
  restricted = record { places = w.places; inners = changed_first (λ i. i.number) number restricted_by w.inners }

  -- the numbers stay
  places_numbered : place_numbers strengthened ≡ place_numbers w
  places_numbered = changed_numbers (λ (p : PlaceData). p.number) number strengthened_by (λ p. refl) w.places

  inners_numbered : inner_numbers restricted ≡ inner_numbers w
  inners_numbered = changed_numbers (λ (i : InnerData). i.number) number restricted_by (λ i. refl) w.inners

  module _ (valid : ValidWitness table.transitions shape w) where
    pub strengthened_valid : (p : PlaceData) → place_with w number ≡ Some p → add_told (over_values shape) most_conditions p.condition numbers ≡ Ok tt → ValidWitness table.transitions shape strengthened
    strengthened_valid p found e =
        let n = changed_length (λ (x : PlaceData). x.number) number strengthened_by w.places in
        let l = valid.place_count_lem in
        record {
          place_count_lem = omega arith;
          places = changed_all (λ (x : PlaceData). x.number) number strengthened_by (ValidPlace shape) w.places valid.places (λ x f v. record {
            number = v.number;
            condition = rows_added (over_values shape) numbers most_conditions x.condition v.condition (subst (λ (y : PlaceData). add_told (over_values shape) most_conditions y.condition numbers ≡ Ok tt) (same_some p x (sym found ∙ f)) e);
            tested_count = v.tested_count;
            tested = v.tested;
            last = v.last;
          });
          places_rising = subst (Rising 0) (sym places_numbered) valid.places_rising;
          inner_count_lem = valid.inner_count_lem;
          inners = valid.inners;
          inners_rising = valid.inners_rising;
          plans_fit = changed_all (λ (x : PlaceData). x.number) number strengthened_by (PlanFits table.transitions strengthened) w.places valid.plans_fit (λ x f v. v);
          inners_fit = subst (λ (ns : List ℕ). AllByRecursion (λ (i : InnerData). (t : TransitionData) × Transition-is table.transitions i.number t × (among t.start ns ≡ true) × (among t.target ns ≡ true)) w.inners) (sym places_numbered) valid.inners_fit;
        }

    pub restricted_valid : (i : InnerData) → inner_with w number ≡ Some i → add_told shape most_restrictions i.restrictions numbers ≡ Ok tt → ValidWitness table.transitions shape restricted
    restricted_valid i found e =
        let n = changed_length (λ (x : InnerData). x.number) number restricted_by w.inners in
        let l = valid.inner_count_lem in
        record {
          place_count_lem = valid.place_count_lem;
          places = valid.places;
          places_rising = valid.places_rising;
          inner_count_lem = omega arith;
          inners = changed_all (λ (x : InnerData). x.number) number restricted_by (ValidInner shape) w.inners valid.inners (λ x f v. record {
            number = v.number;
            restrictions = rows_added shape numbers most_restrictions x.restrictions v.restrictions (subst (λ (y : InnerData). add_told shape most_restrictions y.restrictions numbers ≡ Ok tt) (same_some i x (sym found ∙ f)) e);
            choice_each = v.choice_each;
            choices = v.choices;
          });
          inners_rising = subst (Rising 0) (sym inners_numbered) valid.inners_rising;
          plans_fit = subst (λ (ns : List ℕ). AllByRecursion (PlansIn ns) w.places) (sym inners_numbered) valid.plans_fit;
          inners_fit = changed_all (λ (x : InnerData). x.number) number restricted_by (InnerFits table.transitions restricted) w.inners valid.inners_fit (λ x f v. v);
        }
      where
        -- that plans fit, by the numbers of the inner transitions
        EntryIn : List ℕ → ℕ → ℕ → Type 0
        EntryIn ns place k = ((t : TransitionData) × Transition-is table.transitions k t × (t.start ≡ place)) × (among k ns ≡ true)

        PlansIn : List ℕ → PlaceData → Type 0
        PlansIn ns p = AllByRecursion (λ x. EntryIn ns p.number x.transition) p.tested × EntryIn ns p.number p.last
