use Rattle.std.proofs.Common.{map, get_or, pos, rules, sym}
use Rattle.records.specs.Bounded.{plain_list}
use Rattle.records.specs.Records.{expression_of}
use Rattle.semantics.specs.Runs.{value_at}
use Rattle.semantics.specs.Vectors.{padded}
use Rattle.obligations.proofs.Expressions.{length_padded, get_or-padded}
use Rattle.obligations.proofs.MadeArrays.{array_made}
use Rattle.obligations.proofs.moving.values_at.Goals as goal

pub returns : goal.returns
returns g c =
    let vs = map (value_at c.args.point.now.values) (plain_list expression_of c.args.expressions.now) in
    array_made (λ k. get_or vs k (pos 0)) (λ i y q e. search rules) c.from_fn.result (padded g.row.N vs) g.row.N (pos 0) c.from_fn.ensures.items (length_padded g.row.N vs) (λ i l. sym (get_or-padded g.row.N vs i l))
