use Rattle.examples.proofs.Computed.{worked_examples}
use Rattle.examples.proofs.theorem.Goals as goal

pub returns : goal.returns
returns c = worked_examples
