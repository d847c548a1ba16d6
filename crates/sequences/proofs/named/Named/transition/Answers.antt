use Rattle.std.proofs.Common.{refl, ap, ◌∙◌}
use Rattle.std.specs.Option.{option_map}
use Rattle.records.specs.declared.records.Transition.{Transition}
use Rattle.records.specs.Records.{TransitionData, transition_of}
use Rattle.records.proofs.Fronts.{first_plain}
use Rattle.sequences.proofs.named.Named.transition.Goals as goal

pub returns : goal.returns
returns c =
    ap (option_map transition_of) (c.copied.ensures ∙ c.with_number.ensures)
    ∙ first_plain transition_of (λ (t : Transition). t.number) (λ (t : TransitionData). t.number) c.args.number c.args.self.table.transitions.now (λ t. refl)
