-- The measure of the recursion.
use Rattle.commands.proofs.stacks.Stack.+at_most.Given as goal

-- one layer less at each slash
abbrev pub decreases-at_most : goal.decreases-at_most
decreases-at_most l = l.layers
