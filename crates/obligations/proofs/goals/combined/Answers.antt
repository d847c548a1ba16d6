use Rattle.std.proofs.Common.{◌≡◌, ℕ, ◌+◌, ◌<◌, List, length, get_or, drop, ◌-◌, ℤ, pos, ◌*ℤ◌, sym, ap, ◌∙◌, arith, lit<, w64, SFits, rules}
use Rattle.std.proofs.lemmas.List.{length-map, get_or-take, get_or-drop, get_or-map, length_push}
use Rattle.std.proofs.lemmas.Slice.Zip.{zip_turn, zip_end}
use Rattle.rows.specs.declared.expression.Expression.{Expression}
use Rattle.rows.specs.declared.numbers.Numbers.{Numbers}
use Rattle.rows.specs.Limits.{columns}
use Rattle.rows.specs.Shapes.{item_of}
use Rattle.rows.specs.Zeros.{zero_numbers}
use Rattle.records.specs.Bounded.{listed, plain_list}
use Rattle.records.specs.Records.{row_of, expression_of}
use Rattle.semantics.specs.Goals.{coefficient, combined}
use Rattle.obligations.proofs.GoalBounds.{most_product, term, term_bounded, sum_past, AddedTurn, added_turn}
use Rattle.obligations.proofs.ShortLists.{listed_most}
use Rattle.obligations.proofs.goals.combined.Given as given
use Rattle.obligations.proofs.goals.combined.Goals as goal
use Rattle.obligations.proofs.goals.combined.Goals.{After-item_of}

module _ (g : given.Over) (c : After-item_of g) where
  -- where the pair of this turn stands
  placed : (length c.loop-coefficient.yielded < length c.iter.result.rest.now) × (length c.loop-coefficient.yielded < length (listed c.args.expressions.now)) ×
      ((d : ℤ) → c.in-Some.coefficient.now ≡ get_or c.iter.result.rest.now (length c.loop-coefficient.yielded) d) × ((d : Expression) → c.in-Some.expression.now ≡ get_or (listed c.args.expressions.now) (length c.loop-coefficient.yielded) d)
  placed =
      zip_turn c.iter.result.rest.now (listed c.args.expressions.now) c.loop-coefficient.yielded c.into_iter-coefficient-iterator.result c.loop-coefficient.coefficient-iterator c.next.new.self c.next.result
      (cc) (cc) c.loop-coefficient.yielded_by _ c.in-Some.is c.next.ensures.steps

  -- which is within the columns
  inside : c.args.from + length c.loop-coefficient.yielded < columns
  inside =
      let p = placed in
      let m = listed_most c.args.expressions.now in
      omega (arith, c.requires, p.1, m)

  -- the code's slice holds the coefficients from the first column on
  read : (k : ℕ) → c.args.from + k < columns → get_or c.iter.result.rest.now k (pos 0) ≡ coefficient (row_of c.args.row.now) (c.args.from + k)
  read k l =
      ap (λ (xs : List ℤ). get_or xs k (pos 0)) c.iter.ensures.rest
      ∙ get_or-take (columns - c.args.from) (drop c.args.from c.numbers.result.now.coefficients) k (pos 0) (omega arith)
      ∙ get_or-drop c.args.from c.numbers.result.now.coefficients k (pos 0)
      ∙ ap (λ (n : Numbers). coefficient n (c.args.from + k)) c.numbers.ensures

  -- what the code multiplies is the term with the index
  same_term : c.in-Some.coefficient.now *ℤ c.item_of.result ≡ term (row_of c.args.row.now) c.args.from (plain_list expression_of c.args.expressions.now) c.args.item (length c.loop-coefficient.yielded)
  same_term =
      let p = placed in
      let k = length c.loop-coefficient.yielded in
      ap (λ (z : ℤ). z *ℤ c.item_of.result) (p.2 (pos 0) ∙ read k inside)
      ∙ ap (λ (z : ℤ). coefficient (row_of c.args.row.now) (c.args.from + k) *ℤ z)
      (c.item_of.ensures ∙ ap (λ (n : Numbers). item_of n c.args.item) (ap expression_of (p.3 c.in-Some.expression.now) ∙ sym (get_or-map expression_of (listed c.args.expressions.now) k c.in-Some.expression.now zero_numbers p.1)))

  turned : AddedTurn most_product (term (row_of c.args.row.now) c.args.from (plain_list expression_of c.args.expressions.now) c.args.item) (length c.loop-coefficient.yielded) c.loop-coefficient.sum-bits c.in-Some.coefficient.now c.item_of.result
  turned =
      let fx : SFits w64 c.in-Some.coefficient.now = search rules in
      let fy : SFits w64 c.item_of.result = search rules in
      let l = inside in
      added_turn columns most_product _ _ _ _ _ (lit< tt) (omega (arith, l)) fx fy same_term (term_bounded c.args.row.now c.args.from (listed c.args.expressions.now) c.args.item (length c.loop-coefficient.yielded) l) c.loop-coefficient.invariant

pub overflow_mul-product : goal.overflow_mul-product
overflow_mul-product g c = (turned g c).step.product

pub overflow_add-sum : goal.overflow_add-sum
overflow_add-sum g c = (turned g c).step.added

pub loop-coefficient-preserved : goal.loop-coefficient-preserved
loop-coefficient-preserved g c =
    let t = turned g c in
    let n = length_push c.loop-coefficient.yielded (c.in-Some.coefficient, c.in-Some.expression) in
    rw n t.again

pub returns : goal.returns
unfolding combined
returns g c =
    let n = zip_end c.iter.result.rest.now (listed c.args.expressions.now) c.loop-coefficient.yielded c.into_iter-coefficient-iterator.result c.loop-coefficient.coefficient-iterator c.next.new.self c.next.result (cc) (cc) c.loop-coefficient.yielded_by c.in-None.is c.next.ensures.steps in
    let m = listed_most c.args.expressions.now in
    let e = length-map (listed c.args.expressions.now) expression_of in
    let r = c.iter.ensures.len in
    let k : length c.loop-coefficient.yielded ≡ length (listed c.args.expressions.now) = omega (arith, n, m, r, c.requires) in
    c.loop-coefficient.invariant.so_far ∙ sum_past g.row.N (length c.loop-coefficient.yielded) (row_of c.args.row.now) c.args.from (plain_list expression_of c.args.expressions.now) c.args.item (omega (arith, m, k)) (omega (arith, e, k))
