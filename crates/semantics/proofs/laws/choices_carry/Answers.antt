use Rattle.semantics.proofs.GoalsMet.{choice_goal}
use Rattle.semantics.proofs.laws.choices_carry.Goals as goal

pub returns : goal.returns
returns c = choice_goal
