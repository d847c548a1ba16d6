use Rattle.cases.proofs.SamplesWorked.{calls_worked_lem}
use Rattle.cases.proofs.samples.calls_worked.Goals as goal

pub returns : goal.returns
returns c = calls_worked_lem
