use Rattle.std.proofs.Common.{◌≡◌, ◌+◌, ◌*◌, drop}
use Rattle.methods.specs.Weights.{weights_say}
use Rattle.methods.proofs.weights.WeightedFacts.new.Given as goal

abbrev pub invariant-loop-index : goal.invariant-loop-index
invariant-loop-index l = weights_say l.certificate (l.from + 2 * l.index) (drop l.index l.facts) ≡ weights_say l.certificate l.from l.facts
