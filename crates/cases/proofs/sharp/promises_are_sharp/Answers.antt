use Rattle.cases.proofs.SharpProved.{promises_sharp}
use Rattle.cases.proofs.sharp.promises_are_sharp.Goals as goal

pub returns : goal.returns
returns c = promises_sharp
