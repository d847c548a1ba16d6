use Rattle.std.proofs.Common.{refl, ap, ◌∙◌}
use Rattle.std.specs.Option.{option_map}
use Rattle.records.specs.declared.records.Transition.{Transition}
use Rattle.records.specs.Records.{TransitionData, transition_of}
use Rattle.records.proofs.Fronts.{first_plain}
use Rattle.obligations.proofs.lookups.Records.transition_with.Goals as goal

pub returns : goal.returns
returns c =
    ap (option_map transition_of) c.with_number.ensures
    ∙ first_plain transition_of (λ (x : Transition). x.number) (λ (x : TransitionData). x.number) c.args.number c.args.self.now.transitions.now (λ x. refl)
