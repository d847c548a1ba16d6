use Rattle.methods.proofs.WeightedSums.{Turn}
use Rattle.methods.proofs.weights.WeightedFacts.sum.Given as goal

abbrev pub invariant-loop-index : goal.invariant-loop-index
invariant-loop-index l = Turn l.item l.self.certificate.now l.self.from l.self.facts.now l.index l.sum
