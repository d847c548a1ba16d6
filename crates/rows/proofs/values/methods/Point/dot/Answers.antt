use Rattle.std.proofs.Common.{◌≡◌, ◌+◌, ◌*◌, ◌<◌, length, pos, subst, arith, lit<, rules, length-append}
use Rattle.std.proofs.lemmas.Slice.Zip.{zip_turn, zip_end}
use Rattle.rows.specs.declared.limits.Limit.TheVariants.{WrittenNumber, StateValue}
use Rattle.rows.specs.Limits.{columns, magnitude_of}
use Rattle.rows.specs.Shapes.{dot}
use Rattle.rows.proofs.Bounds.{summed_at, DotTurn, dot_turn}
use Rattle.rows.proofs.values.methods.Point.dot.Goals as goal

-- a turn, at the next pair of the two lists
turn : (c : goal.After-sum-in-loop-coefficient-1) → DotTurn (magnitude_of WrittenNumber * magnitude_of StateValue) c.loop-coefficient.sum-bits c.args.coefficients.now c.args.self.now.values (length c.loop-coefficient.yielded + 1) c.in-Some.coefficient.now c.in-Some.value.now
turn c =
    let z = zip_turn c.args.coefficients.now c.args.self.now.values c.loop-coefficient.yielded c.into_iter-coefficient-iterator.result c.loop-coefficient.coefficient-iterator c.next.new.self c.next.result (search rules) (search rules) c.loop-coefficient.yielded_by _ c.in-Some.is c.next.ensures.steps in
    let n : length c.args.coefficients.now ≡ columns = search rules in
    dot_turn columns (magnitude_of WrittenNumber) (magnitude_of StateValue) _ _ _ (length c.loop-coefficient.yielded) _ _ (lit< tt) c.requires c.args.self.now.held (subst (λ m. length c.loop-coefficient.yielded < m) n z.0) (z.2 (pos 0)) (z.3 (pos 0)) (search rules) (search rules) c.loop-coefficient.invariant

pub overflow_mul-sum : goal.overflow_mul-sum
overflow_mul-sum c = (turn c).step.product

pub overflow_add-sum : goal.overflow_add-sum
overflow_add-sum c = (turn c).step.added

pub loop-coefficient-preserved : goal.loop-coefficient-preserved
loop-coefficient-preserved c = rw (length-append c.loop-coefficient.yielded _) (turn c).again

pub returns : goal.returns
unfolding dot
returns c =
    let e = zip_end c.args.coefficients.now c.args.self.now.values c.loop-coefficient.yielded c.into_iter-coefficient-iterator.result c.loop-coefficient.coefficient-iterator c.next.new.self c.next.result (search rules) (search rules) c.loop-coefficient.yielded_by c.in-None.is c.next.ensures.steps in
    let n : length c.args.coefficients.now ≡ columns = search rules in
    let m : length c.args.self.now.values ≡ columns = search rules in
    let k : length c.loop-coefficient.yielded ≡ columns = omega (arith, e, n, m) in
    let s = summed_at _ _ _ _ k c.loop-coefficient.invariant in
    record { value = s.so_far; within = (s.small.low, s.small.high) }
