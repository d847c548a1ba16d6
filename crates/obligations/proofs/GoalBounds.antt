-- How large the numbers of a goal become, over any number of terms: every product and sum fits 64 bits, and a goal is
-- within the limit of rows.
use Rattle.std.proofs.Common.{◌≡◌, ℕ, zero, suc, ◌+◌, ◌*◌, ◌^◌, ◌<◌, ◌≤◌, true, List, [], ◌∷◌, map, length, get_or, ℤ, pos, ◌+ℤ◌, ◌-ℤ◌, ◌*ℤ◌, neg_ℤ, sym, refl, ap, ◌∙◌, subst, inl, inr, add-one, arith, lit<, lit≤, w64, SFits, to_z, of_z}
use lib.Signed.{le_z}
use Rattle.std.proofs.lemmas.Nat.{mul-le}
use Rattle.std.proofs.lemmas.List.FromFn.{get_or-map-range_with_len}
use Rattle.std.proofs.lemmas.List.{get_or-replicate, get_or_past}
use Rattle.std.proofs.lemmas.Int.{ints, to_z-of_z}
use Rattle.std.proofs.lemmas.Bool.{cases_lt, and_from, lt-ltb, le-ltb, cond-true, cond-false}
use Rattle.rows.specs.declared.expression.Expression.{Expression}
use Rattle.rows.specs.declared.limits.Limit.TheVariants.{RowNumber, WrittenNumber}
use Rattle.rows.specs.declared.numbers.Numbers.{Numbers}
use Rattle.rows.specs.declared.written.WrittenRow.{WrittenRow}
use Rattle.rows.specs.Limits.{columns, magnitude_of, within}
use Rattle.rows.specs.Shapes.{item_of, Within}
use Rattle.rows.specs.Zeros.{zero_numbers}
use Rattle.rows.proofs.Bounds.{Bounded, bounded, product_bounded, sum_bounded, Accumulated, turn, passed_bounded}
use Rattle.rows.proofs.Items.{item_column, item_bound}
use Rattle.records.specs.declared.records.Inner.{Inner}
use Rattle.records.specs.declared.records.Transition.{Transition}
use Rattle.records.specs.Bounded.{listed}
use Rattle.records.specs.Limits.{most_values, most_choices}
use Rattle.records.specs.Records.{row_of, expression_of, transition_of, inner_of}
use Rattle.formats.specs.Pieces.{each}
use Rattle.obligations.specs.Goals.{sum_limit, Addends}
use Rattle.semantics.specs.Goals.{coefficient, sum_to, combined, kept_or_zero, after_update, with_choices}

-- how large one product of written numbers is
abbrev pub most_product : ℕ
most_product = magnitude_of WrittenNumber * magnitude_of WrittenNumber

-- every number of a row within a limit is bounded, also past its items, where it is the bound again
pub item_bounded : (most : ℕ) (row : Numbers) (k : ℕ) → Within most row → Bounded most (item_of row k)
item_bounded most row k w =
    elim (cases_lt k columns) [
      | inl l ↦ bounded most _ (w k (omega arith))
      | inr l ↦ subst (Bounded most) (item_bound row columns (omega arith) ∙ sym (item_bound row k l)) (bounded most _ (w columns (omega arith)))
    ]

item_zero : (k : ℕ) → item_of zero_numbers k ≡ pos 0
item_zero k = elim (cases_lt k columns) [ inl l ↦ item_column zero_numbers k l ∙ get_or-replicate columns k (pos 0) (pos 0) l | inr l ↦ item_bound zero_numbers k l ]

-- an expression that is read, or the zeros where none is
pub read_within : (es : List Expression) (i : ℕ) (k : ℕ) → Bounded (magnitude_of WrittenNumber) (item_of (get_or (map expression_of es) i zero_numbers) k)
read_within [] i k = subst (Bounded (magnitude_of WrittenNumber)) (sym (item_zero k)) (record { low = omega (arith, ints); high = omega (arith, ints) })
read_within (e ∷ es) zero k = item_bounded (magnitude_of WrittenNumber) (expression_of e) k e.held
read_within (e ∷ es) (suc i) k = read_within es i k

pub column_bounded : (row : WrittenRow) (k : ℕ) → k < columns → Bounded (magnitude_of WrittenNumber) (coefficient (row_of row) k)
column_bounded row k l = subst (Bounded (magnitude_of WrittenNumber)) (item_column (row_of row) k l) (item_bounded (magnitude_of WrittenNumber) (row_of row) k row.held)

-- a term of the sum
abbrev pub term : Numbers → ℕ → List Numbers → ℕ → ℕ → ℤ
term row from es item i = coefficient row (from + i) *ℤ item_of (get_or es i zero_numbers) item

pub term_bounded : (row : WrittenRow) (from : ℕ) (es : List Expression) (item i : ℕ) → from + i < columns → Bounded most_product (term (row_of row) from (map expression_of es) item i)
term_bounded row from es item i l =
    product_bounded (magnitude_of WrittenNumber) (magnitude_of WrittenNumber) _ _
    (column_bounded row (from + i) l)
    (read_within es i item)

-- n terms of which each is within a limit
pub sum_to_bounded : (n most : ℕ) (f : ℕ → ℤ) → ((i : ℕ) → i < n → Bounded most (f i)) → Bounded (n * most) (sum_to n f)
sum_to_bounded zero most f h = record { low = omega (arith, ints); high = omega (arith, ints) }
sum_to_bounded (suc n) most f h = rw (sym (add-one n)) (sum_bounded n most _ _ (sum_to_bounded n most f (λ i l. h i (omega arith))) (h n (omega arith)))

-- where there is no expression the term is zero, so a sum may stop behind the last
term_past : (row : Numbers) (from : ℕ) (es : List Numbers) (item i : ℕ) → length es ≤ i → term row from es item i ≡ pos 0
term_past row from es item i l =
    let z : item_of (get_or es i zero_numbers) item ≡ pos 0 = ap (λ (n : Numbers). item_of n item) (get_or_past es i zero_numbers l) ∙ item_zero item in
    rw z (omega (arith, ints))

pub sum_past : (n m : ℕ) (row : Numbers) (from : ℕ) (es : List Numbers) (item : ℕ) → m ≤ n → length es ≤ m → sum_to m (term row from es item) ≡ sum_to n (term row from es item)
sum_past zero m row from es item l h = let z : m ≡ 0 = omega arith in ap (λ (k : ℕ). sum_to k (term row from es item)) z
sum_past (suc n) m row from es item l h =
    elim (cases_lt n m) [
      | inl lt ↦ let z : m ≡ suc n = omega arith in ap (λ (k : ℕ). sum_to k (term row from es item)) z
      | inr le ↦
          let p = sum_past n m row from es item le h in
          let t = term_past row from es item n (omega arith) in
          omega (arith, ints, p, t)
    ]

-- The loop that adds up the terms: what it has after k of them.
pub record Added (most : ℕ) (f : ℕ → ℤ) (k : ℕ) (sum : ℤ) : Type 0 where
  pub so_far : sum ≡ sum_to k f
  pub small : Bounded (k * most) sum

pub added_none : (most : ℕ) (f : ℕ → ℤ) → Added most f 0 (pos 0)
added_none most f = record { so_far = refl; small = record { low = omega (arith, ints); high = omega (arith, ints) } }

-- one turn of it, where the code multiplies x and y
pub record AddedTurn (most : ℕ) (f : ℕ → ℤ) (k bits : ℕ) (x y : ℤ) : Type 0 where
  pub step : Accumulated bits x y
  pub again : Added most f (k + 1) (to_z w64 (of_z w64 (to_z w64 bits +ℤ to_z w64 (of_z w64 (to_z w64 (of_z w64 x) *ℤ to_z w64 (of_z w64 y))))))

pub added_turn : (n most : ℕ) (f : ℕ → ℤ) (k bits : ℕ) (x y : ℤ) → n * most < 2 ^ 63 → k < n → SFits w64 x → SFits w64 y → x *ℤ y ≡ f k → Bounded most (f k) → Added most f k (to_z w64 bits) → AddedTurn most f k bits x y
added_turn n most f k bits x y h l fx fy e b s =
    let p : Bounded most (x *ℤ y) = subst (Bounded most) (sym e) b in
    let t = turn k n most bits x y l h fx fy p s.small in
    record {
      step = t;
      again = record {
        so_far = t.is ∙ ap (λ (z : ℤ). z +ℤ x *ℤ y) s.so_far ∙ ap (λ (z : ℤ). sum_to k f +ℤ z) e ∙ rw add-one;
        small = subst (Bounded ((k + 1) * most)) (sym t.is) (sum_bounded k most _ _ s.small p);
      };
    }

-- the whole sum, over at most the columns of a row
pub combined_bounded : (row : WrittenRow) (from n : ℕ) (es : List Expression) (item : ℕ) → from + n ≤ columns → Bounded (sum_limit) (combined (row_of row) from n (map expression_of es) item)
unfolding combined
combined_bounded row from n es item l =
    let s = sum_to_bounded n most_product (term (row_of row) from (map expression_of es) item) (λ i h. term_bounded row from es item i (omega arith)) in
    let m : n * most_product ≤ sum_limit = mul-le n most_product columns most_product (omega arith) (omega arith) in
    record { low = omega (arith, ints); high = omega (arith, ints) }

-- a written number and such a sum together are within the limit of rows
raised : (a z : ℤ) → Bounded (magnitude_of WrittenNumber) a → Bounded (sum_limit) z → Bounded (magnitude_of RowNumber) (a +ℤ z)
raised a z f g = record { low = omega (arith, ints); high = omega (arith, ints) }

lowered : (a z : ℤ) → Bounded (magnitude_of WrittenNumber) a → Bounded (sum_limit) z → Bounded (magnitude_of RowNumber) (a -ℤ z)
lowered a z f g = record { low = omega (arith, ints); high = omega (arith, ints) }

widened : (z : ℤ) → Bounded (sum_limit) z → Bounded (magnitude_of RowNumber) z
widened z b = record { low = omega (arith, ints); high = omega (arith, ints) }

-- as they are passed to a function, to their bits and back
pub addends : (a z : ℤ) → Bounded (magnitude_of WrittenNumber) a → Bounded sum_limit z → Addends (to_z w64 (of_z w64 a)) (to_z w64 (of_z w64 z))
addends a z f g =
    let p = passed_bounded (magnitude_of WrittenNumber) (magnitude_of WrittenNumber) a (lit≤ tt) (lit< tt) f in
    let q = passed_bounded sum_limit sum_limit z (lit≤ tt) (lit< tt) g in
    record { number_low = p.0; number_high = p.1; sum_low = q.0; sum_high = q.1 }

-- what a function answers of two numbers that are passed so
pub worked_out : (op : ℤ → ℤ → ℤ) (r a b x y : ℤ) → SFits w64 r → SFits w64 a → SFits w64 b → r ≡ op (to_z w64 (of_z w64 a)) (to_z w64 (of_z w64 b)) → a ≡ x → b ≡ y → to_z w64 (of_z w64 r) ≡ op x y
worked_out op r a b x y fr fa fb e ea eb = to_z-of_z w64 r fr ∙ e ∙ ap (λ (z : ℤ). op z (to_z w64 (of_z w64 b))) (to_z-of_z w64 a fa ∙ ea) ∙ ap (op x) (to_z-of_z w64 b fb ∙ eb)

-- a row of which each number is bounded is within the limit
within_true : (most : ℕ) (z : ℤ) → Bounded most z → within most z ≡ true
within_true most z b =
    let lo = b.low in
    let hi = b.high in
    and_from (le_z (neg_ℤ (pos most)) z) (le_z z (pos most)) (grind (arith, ints)) (grind (arith, ints))

pub all_within_lem : (most : ℕ) (f : ℕ → ℤ) (bound : ℤ) → ((k : ℕ) → k < columns → Bounded most (f k)) → Bounded most bound → Within most (record { coefficients = each f columns; bound = bound })
all_within_lem most f bound h b k l =
    elim (cases_lt k columns) [
      | inl m ↦ ap (within most) (item_column (record { coefficients = each f columns; bound = bound }) k m ∙ get_or-map-range_with_len f 0 columns k k (pos 0) m (omega arith)) ∙ within_true most (f k) (h k m)
      | inr m ↦ ap (within most) (item_bound (record { coefficients = each f columns; bound = bound }) k m) ∙ within_true most bound b
    ]

-- both goals are within the limit of rows
pub after_update_within : (t : Transition) (row : WrittenRow) → Within (magnitude_of RowNumber) (after_update (transition_of t) (row_of row))
after_update_within t row =
    let es = listed t.updates in
    let b = λ (k : ℕ). combined_bounded row 0 most_values es k (omega arith) in
    all_within_lem (magnitude_of RowNumber) _ _ (λ k l. widened _ (b k))
    (lowered _ _ (item_bounded (magnitude_of WrittenNumber) (row_of row) columns row.held) (b columns))

pub with_choices_within : (i : Inner) (row : WrittenRow) → Within (magnitude_of RowNumber) (with_choices (inner_of i) (row_of row))
with_choices_within i row =
    let es = listed i.choices in
    all_within_lem (magnitude_of RowNumber) _ _ kept
    (lowered _ _ (item_bounded (magnitude_of WrittenNumber) (row_of row) columns row.held) (combined_bounded row most_values most_choices es columns (omega arith)))
  where
    kept : (k : ℕ) → k < columns → Bounded (magnitude_of RowNumber) (kept_or_zero (row_of row) (inner_of i).choices k)
    kept k l =
        elim (cases_lt k most_values) [
          | inl m ↦ subst (Bounded (magnitude_of RowNumber)) (sym (cond-true _ _ _ (lt-ltb k most_values m))) (raised _ _ (column_bounded row k l) (combined_bounded row most_values most_choices (listed i.choices) k (omega arith)))
          | inr m ↦ subst (Bounded (magnitude_of RowNumber)) (sym (cond-false _ _ _ (le-ltb k most_values m))) (record { low = omega (arith, ints); high = omega (arith, ints) })
        ]
