use Rattle.std.proofs.Common.{refl, ap, ◌∙◌}
use Rattle.std.specs.Option.{option_map}
use Rattle.records.specs.declared.records.Place.{Place}
use Rattle.records.specs.Records.{PlaceData, place_record_of}
use Rattle.records.proofs.Fronts.{first_plain}
use Rattle.obligations.proofs.lookups.Records.place_with.Goals as goal

pub returns : goal.returns
returns c =
    ap (option_map place_record_of) c.with_number.ensures
    ∙ first_plain place_record_of (λ (x : Place). x.number) (λ (x : PlaceData). x.number) c.args.number c.args.self.now.places.now (λ x. refl)
