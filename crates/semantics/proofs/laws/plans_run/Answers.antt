use Rattle.semantics.proofs.PlanRuns.{plans_run_lem}
use Rattle.semantics.proofs.laws.plans_run.Goals as goal

pub returns : goal.returns
returns c = plans_run_lem
