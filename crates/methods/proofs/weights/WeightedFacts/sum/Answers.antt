use Rattle.methods.proofs.WeightedSums.{Coded, coded}
use Rattle.methods.proofs.weights.WeightedFacts.sum.Goals as goal

-- one turn of the loop
turned : (c : goal.After-item) → Coded c.args.item c.args.self.now.certificate.now c.args.self.now.from c.args.self.now.facts.now c.loop-index.index c.loop-index.sum-bits c.weight.result c.item.result
turned c = coded _ _ _ _ _ _ _ _ _ c.args.self.now.weighable c.loop-index-test.true c.weight.ensures c.item.ensures c.loop-index.invariant

pub overflow_mul-sum : goal.overflow_mul-sum
overflow_mul-sum c = (turned c).step.product

pub overflow_add-sum : goal.overflow_add-sum
overflow_add-sum c = (turned c).step.added
