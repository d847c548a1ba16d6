use Rattle.std.proofs.Common.{◌≡◌, ◌∙◌, rules}
use Rattle.rows.specs.Limits.{magnitude_of, items}
use Rattle.rows.specs.Shapes.{beyond, first_beyond}
use Rattle.rows.proofs.First.{is_first, found_first}
use Rattle.rows.proofs.numbers.Numbers.first_beyond.Goals as goal

pub returns : goal.returns
unfolding first_beyond
returns c =
    let over = beyond (magnitude_of c.args.limit) c.args.self.now in
    let e : c.map.result ≡ c.index_beyond.result = search rules in
    let f = found_first over items _ (e ∙ c.index_beyond.ensures.found) in
    record { value = is_first over items _ f; first = f }
