use Rattle.std.proofs.Common.{rules}
use Rattle.semantics.specs.declared.obligation.Obligation.TheVariants.{Consecution}
use Rattle.obligations.proofs.CountedLists.{reached_mapped}
use Rattle.obligations.proofs.lookups.Records.consecution_in.Goals as goal

pub returns : goal.returns
returns c = reached_mapped (Consecution c.args.inner.now.number) _ (λ i y h. search rules) _ _ _ _ _ c.target_rows.ensures.value c.nth_of.ensures c.map_break.ensures
