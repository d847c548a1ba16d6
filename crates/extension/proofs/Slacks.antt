-- The bound of a row, and a number in range by which it is lowered: how large they are.
use Rattle.std.proofs.Common.{◌≡◌, true, ◌&&◌, ℤ, pos, neg_ℤ, ◌≤ℤ◌, Ok, sym, lit<}
use lib.Signed.{le_z}
use Rattle.std.proofs.lemmas.Bool.{and_parts}
use Rattle.rows.specs.declared.limits.Limit.TheVariants.{RowNumber, WrittenNumber}
use Rattle.rows.specs.declared.numbers.Numbers.{Numbers}
use Rattle.rows.specs.Limits.{columns, magnitude_of}
use Rattle.rows.specs.Shapes.{Within}
use Rattle.rows.proofs.Chains.{check_true}
use Rattle.extension.specs.Orders.{le_from}
use Rattle.extension.specs.Weakens.{slack_says}

bound_within : (b : ℤ) → (le_z (neg_ℤ (pos 20000000000000)) b && le_z b (pos 20000000000000)) ≡ true → (neg_ℤ (pos 20000000000000) ≤ℤ b) × (b ≤ℤ pos 20000000000000)
bound_within b e =
    let p = and_parts (le_z (neg_ℤ (pos 20000000000000)) b) (le_z b (pos 20000000000000)) e in
    (le_from _ _ p.0, le_from _ _ p.1)

-- as the bits of both are handed to the function that lowers
pub bound_lowers : (row : Numbers) (z : ℤ) → Within (magnitude_of RowNumber) row → z ≡ row.bound → (neg_ℤ (pos (magnitude_of RowNumber)) ≤ℤ z) × (z ≤ℤ pos (magnitude_of RowNumber))
bound_lowers row z w e = let p = bound_within row.bound (w columns (lit< tt)) in (rw e p.0, rw e p.1)

pub slack_lowers : (z : ℤ) → Ok tt ≡ slack_says z → (pos 0 ≤ℤ z) × (z ≤ℤ pos (magnitude_of WrittenNumber))
slack_lowers z e =
    let p = and_parts (le_z (pos 0) z) (le_z z (pos 1000000)) (check_true _ _ (sym e)) in
    (le_from _ _ p.0, le_from _ _ p.1)
