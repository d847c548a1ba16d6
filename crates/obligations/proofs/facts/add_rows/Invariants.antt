use Rattle.std.proofs.Common.{◌≡◌, ◌++◌, take}
use Rattle.records.specs.Bounded.{listed, plain_list}
use Rattle.records.specs.Records.{row_of}
use Rattle.obligations.proofs.facts.add_rows.Given as goal

abbrev pub invariant-loop-row : goal.invariant-loop-row
invariant-loop-row g l = listed l.facts ≡ listed l.initial.facts ++ take l.row-index (plain_list row_of l.rows)
