use Rattle.std.proofs.Common.{◌≡◌, ℕ, ◌+◌, ◌-◌, ◌*◌, ◌^◌, ◌<◌, min, List, length, ℤ, pos, Some, None, Option, ◌∙◌, w64, SFits, rules, MatchOption}
use Rattle.std.proofs.lemmas.Int.{to_z-of_z}
use Rattle.rows.specs.Bytes.{number_at}
use Rattle.records.specs.declared.shape.Shape.{Shape}
use Rattle.records.specs.Slots.{slot_of}
use Rattle.formats.specs.StoredRows.{item_at}
use Rattle.formats.proofs.RowItems.{number_capped, item_none, item_some}
use Rattle.sequences.proofs.stored.item_at.Goals as goal

-- the number of an item, by the slot that was found
numbered : (shape : Shape) (bytes : List ℕ) (at item : ℕ) (o : Option ℕ) (r : ℤ) → length bytes < 2 ^ 64 → o ≡ slot_of shape item → MatchOption o (r ≡ pos 0) (λ slot. r ≡ number_at bytes (min (at + 4 * slot) (2 ^ 64 - 1))) → r ≡ item_at shape bytes at item
numbered shape bytes at item None r s e h = h ∙ item_none shape bytes at item e
numbered shape bytes at item (Some slot) r s e h = h ∙ number_capped bytes at (4 * slot) s ∙ item_some shape bytes at item slot e

pub returns : goal.returns
returns c =
    let f : SFits w64 c.map_or.result = search rules in
    let s : length c.args.bytes.now < 2 ^ 64 = search rules in
    to_z-of_z w64 _ f ∙ numbered c.args.shape c.args.bytes.now c.args.at c.args.item c.slot.result c.map_or.result s c.slot.ensures (search rules)
