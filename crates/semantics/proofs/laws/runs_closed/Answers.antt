use Rattle.semantics.proofs.PlanRuns.{runs_closed}
use Rattle.semantics.proofs.laws.runs_closed.Goals as goal

pub returns : goal.returns
returns c = runs_closed
