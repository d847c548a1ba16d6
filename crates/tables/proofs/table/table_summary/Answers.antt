use Rattle.std.proofs.Common.{◌∙◌}
use Rattle.records.specs.Held.{held}
use Rattle.records.specs.Limits.{most_transitions}
use Rattle.formats.specs.Tables.{table_at}
use Rattle.formats.proofs.PieceTests.{given, given_ok}
use Rattle.tables.proofs.Rooms.{enough}
use Rattle.tables.proofs.Shortly.{table_short_lem}
use Rattle.tables.proofs.table.table_summary.Goals as goal

pub load-requires : goal.load-requires
load-requires c = enough c.new-transitions.result most_transitions c.transition-memory.result c.new-transitions.ensures.held c.new-transitions.ensures.behind

pub returns : goal.returns
returns c =
    let p = given_ok _ _ _ c.in_ok-heading.ensures.answer in
    given _ _ _ p.0
    (c.short.ensures ∙ table_short_lem c.in_ok-heading.heading (held c.load.new.transitions) (table_at c.args.bytes.now) c.len.result p.1 c.in_ok-heading.ensures.memory.0 c.len.ensures.value)
