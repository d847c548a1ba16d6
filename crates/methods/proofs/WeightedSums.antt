-- The loop that adds up multiplier × number over the facts: what it has after i facts, and that it fits 64 bits.
use Rattle.std.proofs.Common.{◌≡◌, ℕ, ◌+◌, ◌*◌, ◌<◌, ◌≤◌, List, [], ◌∷◌, ◌++◌, length, get_or, take, ℤ, pos, ◌+ℤ◌, ◌*ℤ◌, neg_ℤ, ◌≤ℤ◌, sym, ap, ◌∙◌, subst, arith, lit<, inl, inr, w64, SFits, to_z, of_z}
use Rattle.std.proofs.ByRecursion.{All-get_or}
use Rattle.std.proofs.lemmas.List.{take_more, take_all, length-take-le}
use Rattle.std.proofs.lemmas.Bool.{cases_lt}
use Rattle.std.proofs.lemmas.Int.{ints, to_z-of_z}
use Rattle.rows.specs.declared.limits.Limit.TheVariants.{RowNumber}
use Rattle.rows.specs.declared.numbers.Numbers.{Numbers}
use Rattle.rows.specs.Limits.{columns, items, magnitude_of}
use Rattle.rows.specs.Shapes.{item_of, Within}
use Rattle.rows.proofs.Bounds.{Bounded, bounded, product_bounded, sum_bounded, bounded_fits, Accumulated, turn}
use Rattle.rows.proofs.Items.{item_bound}
use Rattle.methods.specs.Openings.{most_facts}
use Rattle.methods.specs.Sums.{scaled}
use Rattle.methods.specs.SumsAsk.{Comparable}
use Rattle.methods.specs.Weighing.{Weighable}
use Rattle.rows.specs.Bytes.{word_at}
use Rattle.methods.specs.Weights.{most_weight, weighted}

-- how large one product is
abbrev pub most_product : ℕ
most_product = most_weight * magnitude_of RowNumber

pub weight_bounded : (m : ℕ) → m ≤ most_weight → Bounded most_weight (pos m)
weight_bounded m l = record { low = omega (arith, ints); high = omega (arith, ints) }

-- a number of a row lies within the limit, also past the last item, where it is the bound
pub item_bounded : (most : ℕ) (row : Numbers) → Within most row → (k : ℕ) → Bounded most (item_of row k)
item_bounded most row w k =
    elim (cases_lt k items) [
      | inl l ↦ bounded most _ (w k l)
      | inr l ↦ subst (Bounded most) (item_bound row columns (omega arith) ∙ sym (item_bound row k (omega arith))) (bounded most _ (w columns (lit< tt)))
    ]

-- after i facts the sum is theirs
pub record Turn (item : ℕ) (bytes : List ℕ) (at : ℕ) (facts : List Numbers) (i : ℕ) (sum : ℤ) : Type 0 where
  pub so_far : sum ≡ weighted item bytes at (take i facts)
  pub small : Bounded (i * most_product) sum

-- the sum with one more fact behind the others
weighted_behind : (item : ℕ) (bytes : List ℕ) (at : ℕ) (facts : List Numbers) (fact : Numbers) →
    weighted item bytes at (facts ++ fact ∷ []) ≡ weighted item bytes at facts +ℤ pos (word_at bytes (at + 2 * length facts)) *ℤ item_of fact item
weighted_behind item bytes at [] fact =
    let n : at + 2 * 0 ≡ at = omega arith in
    let e = ap (λ (k : ℕ). pos (word_at bytes k) *ℤ item_of fact item) n in
    omega (arith, ints, e)
weighted_behind item bytes at (f ∷ fs) fact =
    let n : at + 2 + 2 * length fs ≡ at + 2 * length (f ∷ fs) = omega arith in
    let e = ap (λ (k : ℕ). pos (word_at bytes k) *ℤ item_of fact item) n in
    let h = weighted_behind item bytes (at + 2) fs fact in
    omega (arith, ints, e, h)

-- one turn: what the code computes, and the turn after it
pub record Coded (item : ℕ) (bytes : List ℕ) (at : ℕ) (facts : List Numbers) (i bits : ℕ) (m x : ℤ) : Type 0 where
  pub step : Accumulated bits m x
  pub again : Turn item bytes at facts (i + 1) (to_z w64 (of_z w64 (to_z w64 bits +ℤ to_z w64 (of_z w64 (to_z w64 (of_z w64 m) *ℤ to_z w64 (of_z w64 x))))))

module _ (item : ℕ) (bytes : List ℕ) (at : ℕ) (facts : List Numbers) (i : ℕ) (d : Numbers) where
  -- the product of a turn is small
  product_small : Weighable bytes at facts → i < length facts → Bounded most_product (pos (word_at bytes (at + 2 * i)) *ℤ item_of (get_or facts i d) item)
  product_small w l =
      product_bounded most_weight (magnitude_of RowNumber) _ _ (weight_bounded _ (w.in_range_lem i l))
      (item_bounded (magnitude_of RowNumber) _ (All-get_or (Within (magnitude_of RowNumber)) facts i d l w.are_rows) item)

  so_far_more : (sum : ℤ) → i < length facts → sum ≡ weighted item bytes at (take i facts) →
      sum +ℤ pos (word_at bytes (at + 2 * i)) *ℤ item_of (get_or facts i d) item ≡ weighted item bytes at (take (i + 1) facts)
  so_far_more sum l e =
      let n : length (take i facts) ≡ i = length-take-le i facts (omega arith) in
      let s = ap (weighted item bytes at) (take_more facts i d l) ∙ weighted_behind item bytes at (take i facts) (get_or facts i d)
      ∙ ap (λ (k : ℕ). weighted item bytes at (take i facts) +ℤ pos (word_at bytes (at + 2 * k)) *ℤ item_of (get_or facts i d) item) n in
      ap (λ (z : ℤ). z +ℤ pos (word_at bytes (at + 2 * i)) *ℤ item_of (get_or facts i d) item) e ∙ sym s

  pub coded : (bits : ℕ) (m x : ℤ) → Weighable bytes at facts → i < length facts →
      m ≡ pos (word_at bytes (at + 2 * i)) → x ≡ item_of (get_or facts i d) item → Turn item bytes at facts i (to_z w64 bits) → Coded item bytes at facts i bits m x
  coded bits m x w l em ex t =
      let fm : SFits w64 m = subst (SFits w64) (sym em) (bounded_fits most_weight _ (lit< tt) (weight_bounded _ (w.in_range_lem i l))) in
      let fx : SFits w64 x = subst (SFits w64) (sym ex) (bounded_fits (magnitude_of RowNumber) _ (lit< tt) (item_bounded (magnitude_of RowNumber) _ (All-get_or (Within (magnitude_of RowNumber)) facts i d l w.are_rows) item)) in
      let p : Bounded most_product (m *ℤ x) = rw (em, ex) (product_small w l) in
      let few : i < most_facts = omega (arith, w.few) in
      let a = turn i most_facts most_product bits m x few (lit< tt) fm fx p t.small in
      let e : to_z w64 bits +ℤ m *ℤ x ≡ to_z w64 bits +ℤ pos (word_at bytes (at + 2 * i)) *ℤ item_of (get_or facts i d) item = rw (em, ex) in
      record {
        step = a;
        again = record {
          so_far = a.is ∙ e ∙ so_far_more (to_z w64 bits) l t.so_far;
          small = subst (Bounded ((i + 1) * most_product)) (sym a.is) (sum_bounded i most_product _ _ t.small p);
        };
      }

  -- the same as a search applies it, goal by goal
  module _ (bits : ℕ) (m x : ℤ) (w : Weighable bytes at facts) (l : i < length facts) (em : m ≡ pos (word_at bytes (at + 2 * i))) (ex : x ≡ item_of (get_or facts i d) item) (t : Turn item bytes at facts i (to_z w64 bits)) where
    pub turn_sum : to_z w64 (of_z w64 (to_z w64 bits +ℤ to_z w64 (of_z w64 (to_z w64 (of_z w64 m) *ℤ to_z w64 (of_z w64 x))))) ≡ weighted item bytes at (take (i + 1) facts)
    turn_sum = (coded bits m x w l em ex t).again.so_far

    pub turn_low : neg_ℤ (pos ((i + 1) * most_product)) ≤ℤ to_z w64 (of_z w64 (to_z w64 bits +ℤ to_z w64 (of_z w64 (to_z w64 (of_z w64 m) *ℤ to_z w64 (of_z w64 x)))))
    turn_low = (coded bits m x w l em ex t).again.small.low

    pub turn_high : to_z w64 (of_z w64 (to_z w64 bits +ℤ to_z w64 (of_z w64 (to_z w64 (of_z w64 m) *ℤ to_z w64 (of_z w64 x))))) ≤ℤ pos ((i + 1) * most_product)
    turn_high = (coded bits m x w l em ex t).again.small.high

-- after all facts the sum is the weighted one
pub turn_end : (item : ℕ) (bytes : List ℕ) (at : ℕ) (facts : List Numbers) (i : ℕ) (sum : ℤ) → Turn item bytes at facts i sum → length facts ≤ i → sum ≡ weighted item bytes at facts
turn_end item bytes at facts i sum t l = t.so_far ∙ ap (weighted item bytes at) (take_all i facts l)

-- what the code's `m * x` computes, at 64 bits, for a multiplier and a number of a row
pub record Multiplied (m x a b : ℤ) : Type 0 where
  pub fits : SFits w64 (to_z w64 (of_z w64 m) *ℤ to_z w64 (of_z w64 x))
  pub is : to_z w64 (of_z w64 (to_z w64 (of_z w64 m) *ℤ to_z w64 (of_z w64 x))) ≡ a *ℤ b

pub multiplied : (m x : ℤ) (n : ℕ) (b : ℤ) → n ≤ most_weight → Bounded (magnitude_of RowNumber) b → SFits w64 m → SFits w64 x → m ≡ pos n → x ≡ b → Multiplied m x (pos n) b
multiplied m x n b l h fm fx em ex =
    let p = product_bounded most_weight (magnitude_of RowNumber) (pos n) b (weight_bounded n l) h in
    let f = bounded_fits most_product (pos n *ℤ b) (lit< tt) p in
    let e : to_z w64 (of_z w64 m) *ℤ to_z w64 (of_z w64 x) ≡ pos n *ℤ b = rw (to_z-of_z w64 m fm, to_z-of_z w64 x fx, em, ex) in
    record { fits = subst (SFits w64) (sym e) f; is = ap (λ (z : ℤ). to_z w64 (of_z w64 z)) e ∙ to_z-of_z w64 _ f }

-- the same of the goal's multiplier and number
module _ (m x : ℤ) (certificate : List ℕ) (from : ℕ) (goal : Numbers) (weight item : ℕ) (c : Comparable certificate from goal weight) (fm : SFits w64 m) (fx : SFits w64 x) (em : m ≡ pos weight) (ex : x ≡ item_of goal item) where
  of_goal : Multiplied m x (pos weight) (item_of goal item)
  of_goal = multiplied m x weight (item_of goal item) c.weight_most (item_bounded (magnitude_of RowNumber) goal c.is_row item) fm fx em ex

  pub scaled_fits : SFits w64 (to_z w64 (of_z w64 m) *ℤ to_z w64 (of_z w64 x))
  scaled_fits = of_goal.fits

  pub scaled_is : to_z w64 (of_z w64 (to_z w64 (of_z w64 m) *ℤ to_z w64 (of_z w64 x))) ≡ scaled goal certificate item
  scaled_is = of_goal.is ∙ ap (λ (n : ℕ). pos n *ℤ item_of goal item) c.written
