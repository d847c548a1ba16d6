use Rattle.cases.proofs.DossierCalls.{accepted_dossiers_lem}
use Rattle.cases.proofs.dossiers.accepted_dossiers.Goals as goal

pub returns : goal.returns
returns c = accepted_dossiers_lem
