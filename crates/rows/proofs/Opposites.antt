-- The opposite of a row: exactly one of the two is met at any point, and that of a written row fits a row.
use Rattle.std.proofs.Common.{◌≡◌, ℕ, zero, suc, ◌+◌, ◌*◌, ◌≤◌, true, List, [], ◌∷◌, map, get_or, ℤ, pos, ◌+ℤ◌, ◌-ℤ◌, ◌*ℤ◌, neg_ℤ, ◌≤ℤ◌, sym, refl, ap, ◌∙◌, subst, inl, inr, arith}
use lib.Signed.{le_z}
use borrow.Author.Differences.{up, down, neg_is}
use Rattle.std.proofs.lemmas.Int.{ints, by_lt_z}
use Rattle.std.proofs.lemmas.Bool.{and_from, cases_lt}
use Rattle.rows.specs.declared.numbers.Numbers.{Numbers}
use Rattle.rows.specs.Limits.{columns, within}
use Rattle.rows.specs.Shapes.{Within, dot_to, dot, opposite_of}
use Rattle.rows.specs.WrittenMade.{TurnsRound}
use Rattle.rows.proofs.Items.{item_column, item_bound}
use Rattle.rows.proofs.Bounds.{bounded}

get_or-neg : (cs : List ℤ) (k : ℕ) → get_or (map neg_ℤ cs) k (pos 0) ≡ neg_ℤ (get_or cs k (pos 0))
get_or-neg [] k = refl
get_or-neg (c ∷ cs) zero = refl
get_or-neg (c ∷ cs) (suc k) = get_or-neg cs k

neg_product : (a b : ℤ) → neg_ℤ a *ℤ b ≡ neg_ℤ (a *ℤ b)
neg_product a b =
    let n = neg_is a in
    let u = ap (λ (x : ℕ). x * up b) n.0 in
    let v = ap (λ (x : ℕ). x * down b) n.0 in
    let s = ap (λ (x : ℕ). x * up b) n.1 in
    let t = ap (λ (x : ℕ). x * down b) n.1 in
    omega (arith, ints, u, v, s, t)

dot_neg : (n : ℕ) (cs vs : List ℤ) → dot_to n (map neg_ℤ cs) vs ≡ neg_ℤ (dot_to n cs vs)
dot_neg zero cs vs = refl
dot_neg (suc k) cs vs =
    ap (λ (z : ℤ). z +ℤ get_or (map neg_ℤ cs) k (pos 0) *ℤ get_or vs k (pos 0)) (dot_neg k cs vs)
    ∙ ap (λ (z : ℤ). neg_ℤ (dot_to k cs vs) +ℤ z *ℤ get_or vs k (pos 0)) (get_or-neg cs k)
    ∙ ap (λ (z : ℤ). neg_ℤ (dot_to k cs vs) +ℤ z) (neg_product (get_or cs k (pos 0)) (get_or vs k (pos 0)))
    ∙ omega (arith, ints)

never_both : (s b : ℤ) → s ≤ℤ b → neg_ℤ s ≤ℤ (neg_ℤ b -ℤ pos 1) → ⊥
never_both s b h k = omega (arith, ints)

always_one : (s b : ℤ) → (s ≤ℤ b → ⊥) → neg_ℤ s ≤ℤ (neg_ℤ b -ℤ pos 1)
always_one s b h = by_lt_z b s (λ l. omega (arith, ints)) (λ m. absurd (h m))

pub opposite_turns : (row : Numbers) → TurnsRound row (opposite_of row)
unfolding dot
opposite_turns row =
    record {
      not_both = λ point m o. never_both _ _ m (subst (λ (z : ℤ). z ≤ℤ (neg_ℤ row.bound -ℤ pos 1)) (dot_neg columns row.coefficients point) o);
      one = λ point n. subst (λ (z : ℤ). z ≤ℤ (neg_ℤ row.bound -ℤ pos 1)) (sym (dot_neg columns row.coefficients point)) (always_one _ _ n);
    }

-- a number turned round, and one less, lies within a limit that is larger by one
pub within_neg : (most more : ℕ) (z : ℤ) → most + 1 ≤ more → within most z ≡ true → within more (neg_ℤ z) ≡ true
within_neg most more z l e =
    let b = bounded most z e in
    and_from (le_z (neg_ℤ (pos more)) (neg_ℤ z)) (le_z (neg_ℤ z) (pos more)) (grind (arith, ints)) (grind (arith, ints))

pub within_less : (most more : ℕ) (z : ℤ) → most + 1 ≤ more → within most z ≡ true → within more (neg_ℤ z -ℤ pos 1) ≡ true
within_less most more z l e =
    let b = bounded most z e in
    and_from (le_z (neg_ℤ (pos more)) (neg_ℤ z -ℤ pos 1)) (le_z (neg_ℤ z -ℤ pos 1) (pos more)) (grind (arith, ints)) (grind (arith, ints))

-- every number of the opposite of a row
pub opposite_within : (most more : ℕ) (row : Numbers) → most + 1 ≤ more → Within most row → Within more (opposite_of row)
opposite_within most more row l w k h =
    elim (cases_lt k columns) [
      | inl below ↦
          let i = item_column (opposite_of row) k below ∙ get_or-neg row.coefficients k in
          ap (within more) i ∙ within_neg most more _ l (sym (ap (within most) (item_column row k below)) ∙ w k h)
      | inr past ↦
          ap (within more) (item_bound (opposite_of row) k past) ∙ within_less most more _ l (sym (ap (within most) (item_bound row k past)) ∙ w k h)
    ]
