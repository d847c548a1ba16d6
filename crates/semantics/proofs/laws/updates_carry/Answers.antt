use Rattle.semantics.proofs.GoalsMet.{update_goal}
use Rattle.semantics.proofs.laws.updates_carry.Goals as goal

pub returns : goal.returns
returns c = update_goal
