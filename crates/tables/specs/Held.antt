-- The table that is held.
use Rattle.std.specs.Prelude.{◌≡◌, Ok, Err, vec_items, Result}
use Rattle.rows.specs.declared.fault.Fault.{Fault}
use Rattle.records.specs.Records.{TableData}
use Rattle.formats.specs.Tables.{table_at}
use Rattle.replies.specs.declared.reply.TableRead.{TableRead}
use Rattle.tables.specs.declared.held.HeldTable.{HeldTable}
use Rattle.tables.specs.Short.{table_short}

abbrev pub table_of : HeldTable → TableData
table_of h = table_at (vec_items h.bytes)

-- where it is handed out with its short form
abbrev pub table_in : HeldTable × TableRead → TableData
table_in x = table_of x.0

abbrev pub InShort : Result (HeldTable × TableRead) Fault → Type 0
InShort (Ok x) = x.1 ≡ table_short (table_in x)
InShort (Err f) = Unit {0}
