use Rattle.semantics.proofs.StateRows.{follows_more}
use Rattle.semantics.proofs.laws.facts_add.Goals as goal

pub returns : goal.returns
returns c = follows_more
