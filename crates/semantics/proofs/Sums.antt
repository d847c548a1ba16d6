-- Sums over an index: equal terms, sums of sums, a factor, two sums exchanged, one behind another.
use Rattle.std.proofs.Common.{◌≡◌, ℕ, zero, suc, ◌+◌, ◌<◌, List, get_or, ℤ, pos, ◌+ℤ◌, ◌*ℤ◌, sym, refl, ap, ◌∙◌, add-zero, add-suc, arith}
use lib.IntN.{*ℤ_comm, *ℤ-zero}
use Rattle.std.proofs.lemmas.Int.{ints}
use Rattle.rows.specs.Shapes.{dot_to}
use Rattle.rows.proofs.Ring.{*ℤ-+ℤ}
use Rattle.semantics.specs.Goals.{sum_to}

pub sum_same : (n : ℕ) (f g : ℕ → ℤ) → ((k : ℕ) → k < n → f k ≡ g k) → sum_to n f ≡ sum_to n g
sum_same zero f g e = refl
sum_same (suc n) f g e =
    let a = sum_same n f g (λ k l. e k (omega arith)) in
    let b = e n (omega arith) in
    rw (a, b)

pub sum_zero : (n : ℕ) → sum_to n (λ k. pos 0) ≡ pos 0
sum_zero zero = refl
sum_zero (suc n) = ap (λ (z : ℤ). z +ℤ pos 0) (sum_zero n)

pub sum_sum : (n : ℕ) (f g : ℕ → ℤ) → sum_to n (λ k. f k +ℤ g k) ≡ sum_to n f +ℤ sum_to n g
sum_sum zero f g = refl
sum_sum (suc n) f g = let a = sum_sum n f g in omega (arith, ints, a)

pub sum_times : (n : ℕ) (c : ℤ) (f : ℕ → ℤ) → sum_to n (λ k. c *ℤ f k) ≡ c *ℤ sum_to n f
sum_times zero c f = sym (*ℤ-zero c)
sum_times (suc n) c f = ap (λ (z : ℤ). z +ℤ c *ℤ f n) (sum_times n c f) ∙ sym (*ℤ-+ℤ c (sum_to n f) (f n))

pub sum_by : (n : ℕ) (f : ℕ → ℤ) (c : ℤ) → sum_to n (λ k. f k *ℤ c) ≡ sum_to n f *ℤ c
sum_by n f c = sum_same n _ _ (λ k l. *ℤ_comm (f k) c) ∙ sum_times n c f ∙ *ℤ_comm c (sum_to n f)

pub sum_exchange : (n m : ℕ) (f : ℕ → ℕ → ℤ) → sum_to n (λ i. sum_to m (λ j. f i j)) ≡ sum_to m (λ j. sum_to n (λ i. f i j))
sum_exchange zero m f = sym (sum_zero m)
sum_exchange (suc n) m f =
    ap (λ (z : ℤ). z +ℤ sum_to m (λ j. f n j)) (sum_exchange n m f)
    ∙ sym (sum_sum m (λ j. sum_to n (λ i. f i j)) (λ j. f n j))

-- the first a terms, and the b behind them
pub sum_parts : (a b : ℕ) (f : ℕ → ℤ) → sum_to (a + b) f ≡ sum_to a f +ℤ sum_to b (λ k. f (a + k))
sum_parts a zero f = ap (λ (n : ℕ). sum_to n f) (add-zero a) ∙ omega (arith, ints)
sum_parts a (suc b) f =
    let e = sum_parts a b f in
    ap (λ (n : ℕ). sum_to n f) (add-suc a b) ∙ omega (arith, ints, e)

-- the sum of products over columns, as a sum over an index
pub dot_sum : (n : ℕ) (cs vs : List ℤ) → dot_to n cs vs ≡ sum_to n (λ k. get_or cs k (pos 0) *ℤ get_or vs k (pos 0))
dot_sum zero cs vs = refl
dot_sum (suc n) cs vs = ap (λ (z : ℤ). z +ℤ get_or cs n (pos 0) *ℤ get_or vs n (pos 0)) (dot_sum n cs vs)
