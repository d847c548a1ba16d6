-- Proofs, and nothing to believe: a point that meets all facts meets every weighted sum of them. They stand here since
-- the laws of the methods rest on them, and a contract may name no file of proofs/.
use Rattle.std.specs.Prelude.{◌≡◌, ℕ, zero, suc, ◌+◌, ◌<◌, ◌≤◌, List, [], ◌∷◌, get_or, ℤ, pos, ◌+ℤ◌, ◌*ℤ◌, ◌≤ℤ◌, slice_index_or, refl}
use Rattle.std.proofs.Common.{sym, ap, subst, ◌∙◌, arith}
use Rattle.std.proofs.lemmas.Int.{ints}
use Rattle.std.specs.List.{AllByRecursion}
use Rattle.rows.specs.declared.numbers.Numbers.{Numbers}
use Rattle.rows.specs.Limits.{columns}
use Rattle.rows.specs.Shapes.{item_of, dot_to}
use Rattle.rows.proofs.Items.{item_column}
use Rattle.rows.proofs.Ring.{+ℤ-*ℤ, *ℤ-assoc, *ℤ-+ℤ, times_le}
use Rattle.rows.specs.Bytes.{word_at}
use Rattle.methods.specs.Weights.{weighted}

-- the sum, over the first n columns, of the column's weighted sum × the point's value
pub columns_to : ℕ → List ℕ → ℕ → List Numbers → List ℤ → ℤ
columns_to zero bytes at facts p = pos 0
columns_to (suc k) bytes at facts p = columns_to k bytes at facts p +ℤ weighted k bytes at facts *ℤ slice_index_or p k (pos 0)

no_facts_lem : (n : ℕ) (bytes : List ℕ) (at : ℕ) (p : List ℤ) → columns_to n bytes at [] p ≡ pos 0
unfolding columns_to
no_facts_lem zero bytes at p = refl
no_facts_lem (suc k) bytes at p = let h = no_facts_lem k bytes at p in omega (arith, ints, h)

swap_inner : (a b c d : ℤ) → (a +ℤ b) +ℤ (c +ℤ d) ≡ (a +ℤ c) +ℤ (b +ℤ d)
swap_inner a b c d = omega (arith, ints)

one_more_fact : (n : ℕ) → n ≤ columns → (bytes : List ℕ) (at : ℕ) (row : Numbers) (rows : List Numbers) (p : List ℤ) →
    columns_to n bytes at (row ∷ rows) p ≡ pos (word_at bytes at) *ℤ dot_to n row.coefficients p +ℤ columns_to n bytes (at + 2) rows p
unfolding columns_to
one_more_fact zero l bytes at row rows p = omega (arith, ints)
one_more_fact (suc k) l bytes at row rows p =
    let m = pos (word_at bytes at) in
    let c = get_or row.coefficients k (pos 0) in
    let x = get_or p k (pos 0) in
    let w = weighted k bytes (at + 2) rows in
    let d = dot_to k row.coefficients p in
    let r = columns_to k bytes (at + 2) rows p in
    let h = one_more_fact k (omega arith) bytes at row rows p in
    let e : (m *ℤ item_of row k +ℤ w) *ℤ x ≡ m *ℤ (c *ℤ x) +ℤ w *ℤ x =
    ap (λ (z : ℤ). (m *ℤ z +ℤ w) *ℤ x) (item_column row k (omega arith)) ∙ +ℤ-*ℤ (m *ℤ c) w x ∙ ap (λ (z : ℤ). z +ℤ w *ℤ x) (*ℤ-assoc m c x) in
    ap (λ (z : ℤ). z +ℤ (m *ℤ item_of row k +ℤ w) *ℤ x) h
    ∙ ap (λ (z : ℤ). (m *ℤ d +ℤ r) +ℤ z) e
    ∙ swap_inner (m *ℤ d) r (m *ℤ (c *ℤ x)) (w *ℤ x)
    ∙ ap (λ (z : ℤ). z +ℤ (r +ℤ w *ℤ x)) (sym (*ℤ-+ℤ m d (c *ℤ x)))

add_le : (a b c d : ℤ) → a ≤ℤ b → c ≤ℤ d → (a +ℤ c) ≤ℤ (b +ℤ d)
add_le a b c d h k = omega (arith, ints)

-- a point that meets all facts meets their weighted sum
pub sum_met : (n : ℕ) → n ≤ columns → (bytes : List ℕ) (at : ℕ) (rows : List Numbers) (p : List ℤ) →
    AllByRecursion (λ row. dot_to n row.coefficients p ≤ℤ row.bound) rows → columns_to n bytes at rows p ≤ℤ weighted columns bytes at rows
sum_met n l bytes at [] p m = let h = no_facts_lem n bytes at p in omega (arith, ints, h)
sum_met n l bytes at (row ∷ rows) p m =
    let h = times_le (word_at bytes at) _ _ m.0 in
    let k = sum_met n l bytes (at + 2) rows p m.1 in
    subst (λ (z : ℤ). z ≤ℤ weighted columns bytes at (row ∷ rows)) (sym (one_more_fact n l bytes at row rows p)) (add_le _ _ _ _ h k)

-- where each column's sum is g times a coefficient, the whole is g times the row's sum at the point
pub sum_scaled : (n g : ℕ) (bytes : List ℕ) (at : ℕ) (rows : List Numbers) (cs p : List ℤ) →
    ((k : ℕ) → k < n → weighted k bytes at rows ≡ pos g *ℤ slice_index_or cs k (pos 0)) → columns_to n bytes at rows p ≡ pos g *ℤ dot_to n cs p
unfolding columns_to
sum_scaled zero g bytes at rows cs p h = omega (arith, ints)
sum_scaled (suc k) g bytes at rows cs p h =
    let x = get_or p k (pos 0) in
    let c = get_or cs k (pos 0) in
    let i = sum_scaled k g bytes at rows cs p (λ j l. h j (omega arith)) in
    ap (λ (z : ℤ). z +ℤ weighted k bytes at rows *ℤ x) i
    ∙ ap (λ (z : ℤ). pos g *ℤ dot_to k cs p +ℤ z *ℤ x) (h k (omega arith))
    ∙ ap (λ (z : ℤ). pos g *ℤ dot_to k cs p +ℤ z) (*ℤ-assoc (pos g) c x)
    ∙ sym (*ℤ-+ℤ (pos g) (dot_to k cs p) (c *ℤ x))
