use Rattle.cases.proofs.Guaranteed.{guaranteed}
use Rattle.cases.proofs.guarantee.verdicts_keep_their_promise.Goals as goal

pub returns : goal.returns
returns c = guaranteed
