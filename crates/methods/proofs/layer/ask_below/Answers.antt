use Rattle.std.proofs.Common.{arith}
use Rattle.methods.proofs.Handing.{below_movable}
use Rattle.methods.proofs.layer.ask_below.Goals as goal

pub returns-clause-answer : goal.returns-clause-answer
returns-clause-answer g c =
    c.put_below.ensures.answer
    (below_movable (g.M.ProofMethod.meaning c.args.below.now) (g.M.ProofMethod.lawful c.args.below.now) c.args.claim.count c.args.sheet.now c.args.claim.goal.now c.args.claim.certificate.now c.args.offset (omega (arith, c.ranges.claim)) (omega (arith, c.ranges.offset)))
