use Rattle.std.proofs.Common.{◌≡◌, drop}
use Rattle.methods.specs.Openings.{rows_say}
use Rattle.methods.proofs.opening.rows_test.Given as goal

abbrev pub invariant-loop-fact : goal.invariant-loop-fact
invariant-loop-fact l = rows_say (drop l.fact-index l.facts) ≡ rows_say l.facts
