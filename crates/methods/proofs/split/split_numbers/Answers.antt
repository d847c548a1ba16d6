use Rattle.std.proofs.Common.{◌∙◌, w64, SFits, rules}
use Rattle.std.proofs.lemmas.Int.{to_z-of_z}
use Rattle.rows.specs.Limits.{columns}
use Rattle.rows.proofs.Items.{same_numbers}
use Rattle.methods.specs.Splits.{split_item}
use Rattle.methods.proofs.Tabulated.{tabulated}
use Rattle.methods.proofs.split.split_numbers.Goals as goal

pub returns : goal.returns
returns c =
    let f : SFits w64 c.number_at.result = search rules in
    same_numbers _ _ _ _ (tabulated _ _ (split_item c.args.certificate.now) (λ i y q k. search rules) c.from_fn.result columns c.from_fn.ensures.items) (to_z-of_z w64 _ f ∙ c.number_at.ensures)
