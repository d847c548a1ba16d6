use Rattle.std.proofs.Common.{◌≡◌, Option, unwrap_or, ap, ◌∙◌, rules}
use Rattle.std.specs.Option.{option_map, option_copied}
use Rattle.records.specs.declared.records.PlanEntry.{PlanEntry}
use Rattle.obligations.proofs.PlanSearch.{planned_found}
use Rattle.obligations.proofs.moving.taken_from.Goals as goal

pub returns : goal.returns
returns c =
    let t : c.map_or.result ≡ unwrap_or (option_map (λ (e : PlanEntry). e.transition) (option_copied c.first_met.result)) c.args.last = search rules in
    t
    ∙ ap (λ (o : Option PlanEntry). unwrap_or (option_map (λ (e : PlanEntry). e.transition) o) c.args.last) c.first_met.ensures
    ∙ planned_found c.args.point.now.values c.args.entries.now c.args.last
