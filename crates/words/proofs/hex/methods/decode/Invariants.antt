-- The loop over the pairs of digits.
use Rattle.std.proofs.Common.{◌≡◌, true, ◌++◌, vec_items}
use Rattle.words.specs.Hex.{all_hex, pairs_of}
use Rattle.words.proofs.hex.methods.decode.Given as goal

-- the bytes so far, and those of the digits that are left
abbrev pub invariant-loop-pair : goal.invariant-loop-pair
invariant-loop-pair l =
    (l.pair-iterator.size ≡ 2) × (all_hex l.pair-iterator.rest.now ≡ true)
    × (vec_items l.bytes ++ pairs_of l.pair-iterator.rest.now ≡ pairs_of l.digits)
