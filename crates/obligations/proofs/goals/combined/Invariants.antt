use Rattle.std.proofs.Common.{length}
use Rattle.records.specs.Bounded.{plain_list}
use Rattle.records.specs.Records.{row_of, expression_of}
use Rattle.obligations.proofs.GoalBounds.{most_product, term, Added}
use Rattle.obligations.proofs.goals.combined.Given as goal

abbrev pub invariant-loop-coefficient : goal.invariant-loop-coefficient
invariant-loop-coefficient g l = Added most_product (term (row_of l.row) l.from (plain_list expression_of l.expressions) l.item) (length l.yielded) l.sum
