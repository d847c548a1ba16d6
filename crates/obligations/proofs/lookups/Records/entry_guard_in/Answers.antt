use Rattle.std.proofs.Common.{ℕ, ap, ◌∙◌, rules}
use Rattle.records.specs.Records.{place_record_of}
use Rattle.semantics.specs.declared.obligation.Obligation.TheVariants.{Guard}
use Rattle.semantics.specs.Enumerated.{given, entry_transition, guard_rows}
use Rattle.semantics.specs.Plans.{transition_with}
use Rattle.obligations.specs.Questions.{bare_table}
use Rattle.obligations.proofs.CountedLists.{reached_mapped}
use Rattle.obligations.proofs.lookups.Records.entry_guard_in.Goals as goal

pub returns : goal.returns
returns c =
    reached_mapped (Guard c.args.place.now.number c.args.entry) _ (λ i y h. search rules) _ _ _ _ _
    (c.guard_rows.ensures.value ∙ ap (λ (e : ℕ). guard_rows (given (entry_transition (place_record_of c.args.place.now) e) (transition_with (bare_table c.args.self.now)))) c.from.ensures)
    c.nth_of.ensures c.map_break.ensures
