use Rattle.cases.proofs.WalkedAsPlanned.{unrolls_as_planned}
use Rattle.cases.proofs.unrolling.unrolled_as_planned.Goals as goal

pub returns : goal.returns
returns c = unrolls_as_planned
