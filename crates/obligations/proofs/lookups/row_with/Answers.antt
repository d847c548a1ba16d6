use Rattle.std.proofs.Common.{ℕ, ap, ◌∙◌}
use Rattle.records.specs.Bounded.{listed, plain_list}
use Rattle.records.specs.Lists.{at}
use Rattle.records.specs.Records.{row_of}
use Rattle.obligations.proofs.ShortLists.{at_plain}
use Rattle.obligations.proofs.lookups.row_with.Goals as goal

pub returns : goal.returns
returns g c =
    at_plain row_of c.from.result (listed c.args.rows.now) c.get.result c.get.ensures
    ∙ ap (λ (k : ℕ). at k (plain_list row_of c.args.rows.now)) c.from.ensures
