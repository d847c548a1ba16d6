use Rattle.cases.proofs.SamplesWorked.{dossiers_worked_lem}
use Rattle.cases.proofs.samples.dossiers_worked.Goals as goal

pub returns : goal.returns
returns c = dossiers_worked_lem
