use Rattle.std.proofs.Common.{pos, ◌∙◌, w64, SFits, rules}
use Rattle.std.proofs.lemmas.Int.{to_z-of_z}
use Rattle.rows.specs.Limits.{columns}
use Rattle.rows.proofs.Items.{same_numbers}
use Rattle.formats.specs.StoredRows.{item_at}
use Rattle.sequences.proofs.ArraysMade.{made_array}
use Rattle.sequences.proofs.stored.numbers_at.Goals as goal

pub returns : goal.returns
returns c =
    let f : SFits w64 c.item_at.result = search rules in
    same_numbers _ _ _ _
    (made_array _ _ (item_at c.args.shape c.args.bytes.now c.args.at) c.from_fn.result (λ i y q k. search rules) columns (pos 0) c.from_fn.ensures.items)
    (to_z-of_z w64 _ f ∙ c.item_at.ensures)
