use Rattle.semantics.proofs.SamplesWorked.{steps_worked_lem}
use Rattle.semantics.proofs.samples.steps_worked.Goals as goal

pub returns : goal.returns
returns c = steps_worked_lem
