-- Laws of whole numbers that the library lacks: products over sums, orders under a product.
use Rattle.std.proofs.Common.{◌≡◌, ℕ, ◌+◌, ◌*◌, ◌<◌, ◌≤◌, ℤ, pos, ◌+ℤ◌, ◌*ℤ◌, ◌≤ℤ◌, ap, mul-le-mul_left, arith}
use native.Mathlib.Nat.{le_of_mul-le-mul_left}
use borrow.Author.Differences.{up, down, sum_is_lem, product_is, le_out}
use Rattle.std.proofs.lemmas.Int.{ints}

pub +ℤ-*ℤ : (a b c : ℤ) → (a +ℤ b) *ℤ c ≡ a *ℤ c +ℤ b *ℤ c
+ℤ-*ℤ a b c =
    let s = sum_is_lem a b in
    let u = ap (λ (n : ℕ). n * up c) s in
    let v = ap (λ (n : ℕ). n * down c) s in
    omega (arith, ints, u, v)

pub *ℤ-assoc : (a b c : ℤ) → (a *ℤ b) *ℤ c ≡ a *ℤ (b *ℤ c)
*ℤ-assoc a b c =
    let p = product_is a b in
    let q = product_is b c in
    let p₀ = ap (λ (n : ℕ). n * up c) p.0 in
    let p₁ = ap (λ (n : ℕ). n * down c) p.0 in
    let p₂ = ap (λ (n : ℕ). n * up c) p.1 in
    let p₃ = ap (λ (n : ℕ). n * down c) p.1 in
    let q₀ = ap (λ (n : ℕ). up a * n) q.0 in
    let q₁ = ap (λ (n : ℕ). down a * n) q.0 in
    let q₂ = ap (λ (n : ℕ). up a * n) q.1 in
    let q₃ = ap (λ (n : ℕ). down a * n) q.1 in
    omega (arith, ints, p₀, p₁, p₂, p₃, q₀, q₁, q₂, q₃)

pub *ℤ-+ℤ : (m : ℤ) (a b : ℤ) → m *ℤ (a +ℤ b) ≡ m *ℤ a +ℤ m *ℤ b
*ℤ-+ℤ m a b =
    let s = sum_is_lem a b in
    let u = ap (λ (n : ℕ). up m * n) s in
    let v = ap (λ (n : ℕ). down m * n) s in
    omega (arith, ints, u, v)

pub times_le : (m : ℕ) (a b : ℤ) → a ≤ℤ b → (pos m *ℤ a) ≤ℤ (pos m *ℤ b)
times_le m a b h = let p = mul-le-mul_left m (le_out a b h) in omega (arith, ints, p)

pub times_cancel : (m : ℕ) (a b : ℤ) → 0 < m → (pos m *ℤ a) ≤ℤ (pos m *ℤ b) → a ≤ℤ b
times_cancel m a b l h =
    let p : m * (up a + down b) ≤ m * (up b + down a) = omega (arith, ints, le_out (pos m *ℤ a) (pos m *ℤ b) h) in
    let q = le_of_mul-le-mul_left {m = up a + down b} {n = up b + down a} {k = m} p l in
    omega (arith, ints, q)
