use Rattle.std.proofs.Common.{ℕ, Bool, cond, List, [], ◌∷◌, ap, ◌∙◌, subst, rules}
use Rattle.semantics.specs.declared.obligation.Obligation.{Obligation}
use Rattle.semantics.specs.declared.obligation.Obligation.TheVariants.{Exit}
use Rattle.obligations.specs.Listings.{Reached}
use Rattle.obligations.proofs.CountedLists.{reached_mapped, one_or_none}
use Rattle.obligations.proofs.lookups.Records.exit_in.Goals as goal

pub returns : goal.returns
returns c =
    let x = Exit c.args.transition.now.number in
    subst (λ (os : List Obligation). Reached c.args.index os c.map_break.result) (one_or_none c.is_exit.result x ∙ ap (λ (b : Bool). cond b (x ∷ []) []) c.is_exit.ensures)
    (reached_mapped (λ (k : ℕ). x) _ (λ i y h. search rules) _ _ _ _ _ c.from.ensures c.nth_of.ensures c.map_break.ensures)
