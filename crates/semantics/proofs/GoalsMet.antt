-- The goals of obligations: a row after an update holds before it exactly where the row holds after it, and a row with
-- the choice expressions put in holds exactly where the row holds with the choices. Both are an exchange of two sums.
use Rattle.std.proofs.Common.{◌≡◌, ℕ, ◌+◌, ◌<◌, ltb, List, map, length, get_or, ℤ, pos, ◌+ℤ◌, ◌-ℤ◌, ◌*ℤ◌, ◌≤ℤ◌, sym, ap, ◌∙◌, zero-add, arith}
use lib.ListN.{get_or-map}
use Rattle.std.proofs.lemmas.List.FromFn.{get_or-map-range_with_len}
use Rattle.std.proofs.lemmas.Int.{ints}
use Rattle.std.proofs.lemmas.Bool.{lt-ltb, cond-true}
use Rattle.rows.specs.declared.numbers.Numbers.{Numbers}
use Rattle.rows.specs.Limits.{columns}
use Rattle.rows.specs.Shapes.{item_of, dot}
use Rattle.rows.specs.Zeros.{zero_numbers}
use Rattle.rows.proofs.Items.{item_column}
use Rattle.rows.proofs.Ring.{*ℤ-assoc, *ℤ-+ℤ, +ℤ-*ℤ}
use Rattle.records.specs.Limits.{most_values, most_choices}
use Rattle.records.specs.Records.{TransitionData, InnerData}
use Rattle.formats.specs.Pieces.{each}
use Rattle.semantics.specs.Goals.{coefficient, sum_to, combined, after_update, kept_or_zero, with_choices}
use Rattle.semantics.specs.Laws.{UpdatesCarry, ChoicesCarry}
use Rattle.semantics.specs.Plans.{choices_of}
use Rattle.semantics.specs.Runs.{value_at, updated}
use Rattle.semantics.specs.Vectors.{padded, point_of, at_rest}
use Rattle.semantics.proofs.Points.{length_padded, get_or-padded, dot_zeros, values_part, choices_part, dot_point, dot_rest}
use Rattle.semantics.proofs.Sums.{sum_same, sum_sum, sum_times, sum_by, sum_exchange, dot_sum}

-- an expression's value by its items
value_items : (point : List ℤ) (e : Numbers) → value_at point e ≡ sum_to columns (λ k. item_of e k *ℤ get_or point k (pos 0)) +ℤ item_of e columns
unfolding dot
value_items point e =
    ap (λ (z : ℤ). z +ℤ e.bound) (dot_sum columns e.coefficients point ∙ sum_same columns _ (λ k. item_of e k *ℤ get_or point k (pos 0)) (λ k l. ap (λ (z : ℤ). z *ℤ get_or point k (pos 0)) (sym (item_column e k l))))

-- no expression has the value zero
value_zeros : (point : List ℤ) → value_at point zero_numbers ≡ pos 0
value_zeros point = ap (λ (z : ℤ). z +ℤ pos 0) (dot_zeros point)

-- the numbers that expressions give, padded
pub padded_value : (n : ℕ) (point : List ℤ) (expressions : List Numbers) (i : ℕ) → i < n → get_or (padded n (map (value_at point) expressions)) i (pos 0) ≡ value_at point (get_or expressions i zero_numbers)
padded_value n point expressions i l =
    get_or-padded n (map (value_at point) expressions) i l
    ∙ ap (get_or (map (value_at point) expressions) i) (sym (value_zeros point))
    ∙ get_or-map (value_at point) expressions i zero_numbers

-- a sum of expressions' values, each times a coefficient, is the value of the combined expression
module _ (row : Numbers) (from n : ℕ) (expressions : List Numbers) (point : List ℤ) where
  abbrev factor : ℕ → ℤ
  factor i = coefficient row (from + i)

  abbrev item : ℕ → ℕ → ℤ
  item i k = item_of (get_or expressions i zero_numbers) k

  abbrev value : ℕ → ℤ
  value k = get_or point k (pos 0)

  term_items : (i : ℕ) → factor i *ℤ value_at point (get_or expressions i zero_numbers) ≡ sum_to columns (λ k. factor i *ℤ item i k *ℤ value k) +ℤ factor i *ℤ item i columns
  term_items i =
      ap (λ (z : ℤ). factor i *ℤ z) (value_items point (get_or expressions i zero_numbers))
      ∙ *ℤ-+ℤ (factor i) (sum_to columns (λ k. item i k *ℤ value k)) (item i columns)
      ∙ ap (λ (z : ℤ). z +ℤ factor i *ℤ item i columns) (sym (sum_times columns (factor i) (λ k. item i k *ℤ value k)) ∙ sum_same columns _ (λ k. factor i *ℤ item i k *ℤ value k) (λ k l. sym (*ℤ-assoc (factor i) (item i k) (value k))))

  pub combined_value : sum_to n (λ i. factor i *ℤ value_at point (get_or expressions i zero_numbers)) ≡ sum_to columns (λ k. combined row from n expressions k *ℤ value k) +ℤ combined row from n expressions columns
  unfolding combined
  combined_value =
      sum_same n _ _ (λ i l. term_items i)
      ∙ sum_sum n (λ i. sum_to columns (λ k. factor i *ℤ item i k *ℤ value k)) (λ i. factor i *ℤ item i columns)
      ∙ ap (λ (z : ℤ). z +ℤ combined row from n expressions columns) (sum_exchange n columns (λ i k. factor i *ℤ item i k *ℤ value k) ∙ sum_same columns _ (λ k. combined row from n expressions k *ℤ value k) (λ k l. sum_by n (λ i. factor i *ℤ item i k) (value k)))

-- the sum of a row whose coefficients a function gives
dot_each : (f : ℕ → ℤ) (point : List ℤ) → dot (each f columns) point ≡ sum_to columns (λ k. f k *ℤ get_or point k (pos 0))
unfolding dot
dot_each f point =
    dot_sum columns (each f columns) point
    ∙ sum_same columns _ (λ k. f k *ℤ get_or point k (pos 0)) (λ k l. ap (λ (z : ℤ). z *ℤ get_or point k (pos 0)) (get_or-map-range_with_len f 0 columns k k (pos 0) l (zero-add k)))

-- at a state alone
rest_each : (f : ℕ → ℤ) (state : List ℤ) → length state ≡ most_values → dot (each f columns) (at_rest state) ≡ sum_to most_values (λ k. f k *ℤ get_or state k (pos 0))
rest_each f state e =
    dot_rest (each f columns) state e
    ∙ sum_same most_values _ (λ k. f k *ℤ get_or state k (pos 0)) (λ k l. ap (λ (z : ℤ). z *ℤ get_or state k (pos 0)) (get_or-map-range_with_len f 0 columns k k (pos 0) (omega arith) (zero-add k)))

-- after an update
update_sum : (t : TransitionData) (row : Numbers) (point : List ℤ) → dot row.coefficients (at_rest (updated t point)) ≡ dot (after_update t row).coefficients point +ℤ combined row 0 most_values t.updates columns
update_sum t row point =
    dot_rest row.coefficients (updated t point) (length_padded most_values (map (value_at point) t.updates))
    ∙ sum_same most_values _ (λ i. coefficient row (0 + i) *ℤ value_at point (get_or t.updates i zero_numbers)) (λ i l. ap (λ (z : ℤ). coefficient row i *ℤ z) (padded_value most_values point t.updates i l) ∙ ap (λ (k : ℕ). coefficient row k *ℤ value_at point (get_or t.updates i zero_numbers)) (sym (zero-add i)))
    ∙ combined_value row 0 most_values t.updates point
    ∙ ap (λ (z : ℤ). z +ℤ combined row 0 most_values t.updates columns) (sym (dot_each (combined row 0 most_values t.updates) point))

-- a sum that is another and something more, and a bound that is that much less
le_moved : (a b c d : ℤ) → a ≡ b +ℤ c → b ≤ℤ (d -ℤ c) → a ≤ℤ d
le_moved a b c d e h = omega (arith, ints)

le_back : (a b c d : ℤ) → a ≡ b +ℤ c → a ≤ℤ d → b ≤ℤ (d -ℤ c)
le_back a b c d e h = omega (arith, ints)

pub update_goal : UpdatesCarry
update_goal t row =
    record {
      carried = λ point m. le_moved _ _ (combined row 0 most_values t.updates columns) row.bound (update_sum t row point) m;
      needed = λ point m. le_back _ _ (combined row 0 most_values t.updates columns) row.bound (update_sum t row point) m;
    }

-- with the choices put in
module _ (i : InnerData) (row : Numbers) (state : List ℤ) (e : length state ≡ most_values) where
  abbrev part : ℕ → ℤ
  part k = combined row most_values most_choices i.choices k

  -- the sum of the combined expression at the state
  part_sum : sum_to columns (λ k. part k *ℤ get_or (at_rest state) k (pos 0)) ≡ sum_to most_values (λ k. part k *ℤ get_or state k (pos 0))
  part_sum = sym (dot_each part (at_rest state)) ∙ rest_each part state e

  kept_sum : dot (with_choices i row).coefficients (at_rest state) ≡ values_part row.coefficients state +ℤ sum_to most_values (λ k. part k *ℤ get_or state k (pos 0))
  kept_sum =
      rest_each (kept_or_zero row i.choices) state e
      ∙ sum_same most_values _ (λ k. coefficient row k *ℤ get_or state k (pos 0) +ℤ part k *ℤ get_or state k (pos 0)) (λ k l. ap (λ (z : ℤ). z *ℤ get_or state k (pos 0)) (cond-true (ltb k most_values) (coefficient row k +ℤ part k) (pos 0) (lt-ltb k most_values l)) ∙ +ℤ-*ℤ (coefficient row k) (part k) (get_or state k (pos 0)))
      ∙ sum_sum most_values (λ k. coefficient row k *ℤ get_or state k (pos 0)) (λ k. part k *ℤ get_or state k (pos 0))

  choice_sum : dot row.coefficients (point_of state (choices_of i state)) ≡ dot (with_choices i row).coefficients (at_rest state) +ℤ part columns
  choice_sum =
      let a = dot_point row.coefficients state (choices_of i state) e in
      let b : choices_part row.coefficients (choices_of i state) ≡ sum_to most_choices (λ l. coefficient row (most_values + l) *ℤ value_at (at_rest state) (get_or i.choices l zero_numbers)) = sum_same most_choices _ _ (λ l h. ap (λ (z : ℤ). coefficient row (most_values + l) *ℤ z) (padded_value most_choices (at_rest state) i.choices l h)) in
      let c = combined_value row most_values most_choices i.choices (at_rest state) in
      let d = part_sum in
      let f = kept_sum in
      omega (arith, ints, a, b, c, d, f)

pub choice_goal : ChoicesCarry
choice_goal i row =
    record {
      carried = λ state e m. le_moved _ _ (combined row most_values most_choices i.choices columns) row.bound (choice_sum i row state e) m;
      needed = λ state e m. le_back _ _ (combined row most_values most_choices i.choices columns) row.bound (choice_sum i row state e) m;
    }
