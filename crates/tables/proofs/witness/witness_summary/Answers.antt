use Rattle.records.specs.Limits.{most_transitions}
use Rattle.tables.proofs.Rooms.{enough}
use Rattle.tables.proofs.witness.witness_summary.Goals as goal

pub load-requires : goal.load-requires
load-requires c = enough c.new-transitions.result most_transitions c.transition-memory.result c.new-transitions.ensures.held c.new-transitions.ensures.behind
