use Rattle.std.proofs.Common.{sym, ◌∙◌, rules}
use Rattle.std.proofs.lemmas.List.{length-map}
use Rattle.records.specs.Bounded.{listed}
use Rattle.records.specs.Records.{row_of}
use Rattle.semantics.specs.declared.obligation.Obligation.TheVariants.{Restriction}
use Rattle.obligations.proofs.CountedLists.{reached_mapped}
use Rattle.obligations.proofs.listing.counting.restriction_in.Goals as goal

pub returns : goal.returns
returns c =
    reached_mapped (Restriction c.args.inner.now.number) _ (λ i y h. search rules) _ _ _ _ _
    (c.len.ensures.value ∙ sym (length-map (listed c.args.inner.now.restrictions) row_of)) c.nth_of.ensures c.map_break.ensures
