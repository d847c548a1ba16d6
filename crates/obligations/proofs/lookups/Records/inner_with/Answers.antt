use Rattle.std.proofs.Common.{refl, ap, ◌∙◌}
use Rattle.std.specs.Option.{option_map}
use Rattle.records.specs.declared.records.Inner.{Inner}
use Rattle.records.specs.Records.{InnerData, inner_of}
use Rattle.records.proofs.Fronts.{first_plain}
use Rattle.obligations.proofs.lookups.Records.inner_with.Goals as goal

pub returns : goal.returns
returns c =
    ap (option_map inner_of) c.with_number.ensures
    ∙ first_plain inner_of (λ (x : Inner). x.number) (λ (x : InnerData). x.number) c.args.number c.args.self.now.inners.now (λ x. refl)
