use Rattle.std.proofs.Common.{rules}
use Rattle.methods.proofs.RowTests.{row_tested}
use Rattle.methods.proofs.opening.row_test.Goals as goal

pub returns : goal.returns
returns c = row_tested c.args.numbers.now c.new.result c.map.result c.new.ensures (search rules)
