-- At most two layers.
use Rattle.commands.specs.Stacks.{stack_of}
use Rattle.commands.proofs.Stacking.{stacks_read}
use Rattle.commands.proofs.stacks.Stack.read.Goals as goal

pub returns : goal.returns
unfolding stack_of
returns c = record { value = c.at_most.ensures; law = stacks_read }
