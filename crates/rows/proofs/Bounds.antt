-- How large products and sums of products become, over any number of columns and any limits, and that they fit 64 bits.
use Rattle.std.proofs.Common.{◌≡◌, ℕ, zero, suc, ◌+◌, ◌*◌, ◌^◌, ◌<◌, ◌≤◌, true, List, get_or, ℤ, pos, negsuc, ◌+ℤ◌, ◌*ℤ◌, neg_ℤ, ◌≤ℤ◌, sym, ap, ◌∙◌, subst, add-one, arith, w64, SFits, to_z, of_z}
use lib.Signed.{le_z}
use Rattle.std.proofs.lemmas.Nat.{mul-le}
use Rattle.std.proofs.lemmas.Int.{ints, to_z-of_z}
use Rattle.std.proofs.lemmas.Bool.{and_parts}
use Rattle.rows.specs.Limits.{within}
use Rattle.rows.specs.Points.{WithinFirst}
use Rattle.rows.specs.Shapes.{dot_to}

-- z lies within ±most
pub record Bounded (most : ℕ) (z : ℤ) : Type 0 where
  pub low : neg_ℤ (pos most) ≤ℤ z
  pub high : z ≤ℤ pos most

pub bounded : (most : ℕ) (z : ℤ) → within most z ≡ true → Bounded most z
bounded most z e =
    let p = and_parts (le_z (neg_ℤ (pos most)) z) (le_z z (pos most)) e in
    record { low = omega (arith, ints, p.0); high = omega (arith, ints, p.1) }

pub product_bounded : (a b : ℕ) (x y : ℤ) → Bounded a x → Bounded b y → Bounded (a * b) (x *ℤ y)
product_bounded a b (pos m) (pos n) f g =
    let q = mul-le m n a b (omega (arith, ints)) (omega (arith, ints)) in
    record { low = omega (arith, ints, q); high = omega (arith, ints, q) }
product_bounded a b (pos m) (negsuc n) f g =
    let q = mul-le m (suc n) a b (omega (arith, ints)) (omega (arith, ints)) in
    record { low = omega (arith, ints, q); high = omega (arith, ints, q) }
product_bounded a b (negsuc m) (pos n) f g =
    let q = mul-le (suc m) n a b (omega (arith, ints)) (omega (arith, ints)) in
    record { low = omega (arith, ints, q); high = omega (arith, ints, q) }
product_bounded a b (negsuc m) (negsuc n) f g =
    let q = mul-le (suc m) (suc n) a b (omega (arith, ints)) (omega (arith, ints)) in
    record { low = omega (arith, ints, q); high = omega (arith, ints, q) }

-- one more term of a sum
pub sum_bounded : (k most : ℕ) (s p : ℤ) → Bounded (k * most) s → Bounded most p → Bounded ((k + 1) * most) (s +ℤ p)
sum_bounded k most s p f g = record { low = omega (arith, ints); high = omega (arith, ints) }

pub bounded_fits : (most : ℕ) (z : ℤ) → most < 2 ^ 63 → Bounded most z → SFits w64 z
bounded_fits most z l f = omega (arith, ints)

-- What the code's `sum += x * y` computes, at 64 bits: the sum has the bits `bits` before.
pub record Accumulated (bits : ℕ) (x y : ℤ) : Type 0 where
  pub product : SFits w64 (to_z w64 (of_z w64 x) *ℤ to_z w64 (of_z w64 y))
  pub added : SFits w64 (to_z w64 bits +ℤ to_z w64 (of_z w64 (to_z w64 (of_z w64 x) *ℤ to_z w64 (of_z w64 y))))
  pub is : to_z w64 (of_z w64 (to_z w64 bits +ℤ to_z w64 (of_z w64 (to_z w64 (of_z w64 x) *ℤ to_z w64 (of_z w64 y))))) ≡ to_z w64 bits +ℤ x *ℤ y

pub accumulated : (bits : ℕ) (x y : ℤ) → SFits w64 x → SFits w64 y → SFits w64 (x *ℤ y) → SFits w64 (to_z w64 bits +ℤ x *ℤ y) → Accumulated bits x y
accumulated bits x y fx fy fp fs =
    let p : to_z w64 (of_z w64 x) *ℤ to_z w64 (of_z w64 y) ≡ x *ℤ y = rw (to_z-of_z w64 x fx, to_z-of_z w64 y fy) in
    let s : to_z w64 bits +ℤ to_z w64 (of_z w64 (to_z w64 (of_z w64 x) *ℤ to_z w64 (of_z w64 y))) ≡ to_z w64 bits +ℤ x *ℤ y = rw (p, to_z-of_z w64 (x *ℤ y) fp) in
    record {
      product = subst (SFits w64) (sym p) fp;
      added = subst (SFits w64) (sym s) fs;
      is = ap (λ (z : ℤ). to_z w64 (of_z w64 z)) s ∙ to_z-of_z w64 _ fs;
    }

-- A turn of such a loop, where the products stay within `most` and k of them have been added.
pub turn : (k n most bits : ℕ) (x y : ℤ) → k < n → n * most < 2 ^ 63 → SFits w64 x → SFits w64 y → Bounded most (x *ℤ y) → Bounded (k * most) (to_z w64 bits) → Accumulated bits x y
turn k n most bits x y l h fx fy p s =
    let m : (k + 1) * most ≤ n * most = mul-le (k + 1) most n most (omega arith) (omega arith) in
    let a = sum_bounded k most (to_z w64 bits) (x *ℤ y) s p in
    accumulated bits x y fx fy (bounded_fits most _ (omega arith) p) (bounded_fits ((k + 1) * most) _ (omega arith) a)

-- The loop that adds up coefficient × value: after k columns, with products within `most`.
pub record Summed (most : ℕ) (cs vs : List ℤ) (k : ℕ) (sum : ℤ) : Type 0 where
  pub so_far : sum ≡ dot_to k cs vs
  pub small : Bounded (k * most) sum

pub summed_at : (most : ℕ) {k n : ℕ} (cs vs : List ℤ) (sum : ℤ) → k ≡ n → Summed most cs vs k sum → Summed most cs vs n sum
summed_at most cs vs sum e s = subst (λ i. Summed most cs vs i sum) e s

-- one turn of it, at the next pair x and y, over any number n of columns and any limits a and b
pub record DotTurn (most bits : ℕ) (cs vs : List ℤ) (k : ℕ) (x y : ℤ) : Type 0 where
  pub step : Accumulated bits x y
  pub again : Summed most cs vs k (to_z w64 (of_z w64 (to_z w64 bits +ℤ to_z w64 (of_z w64 (to_z w64 (of_z w64 x) *ℤ to_z w64 (of_z w64 y))))))

pub dot_turn : (n a b bits : ℕ) (cs vs : List ℤ) (k : ℕ) (x y : ℤ) → n * (a * b) < 2 ^ 63 → WithinFirst n a cs → WithinFirst n b vs → k < n → x ≡ get_or cs k (pos 0) → y ≡ get_or vs k (pos 0) →
    SFits w64 x → SFits w64 y → Summed (a * b) cs vs k (to_z w64 bits) → DotTurn (a * b) bits cs vs (k + 1) x y
dot_turn n a b bits cs vs k x y h ca vb l ex ey fx fy s =
    let p = product_bounded a b x y (bounded a _ (ap (within a) ex ∙ ca k l)) (bounded b _ (ap (within b) ey ∙ vb k l)) in
    let t = turn k n (a * b) bits _ _ l h fx fy p s.small in
    let d : x *ℤ y ≡ get_or cs k (pos 0) *ℤ get_or vs k (pos 0) = rw (ex, ey) in
    record {
      step = t;
      again = record {
        so_far = t.is ∙ ap (λ (z : ℤ). z +ℤ x *ℤ y) s.so_far ∙ ap (λ (z : ℤ). dot_to k cs vs +ℤ z) d ∙ rw add-one;
        small = subst (Bounded ((k + 1) * (a * b))) (sym t.is) (sum_bounded k (a * b) _ _ s.small p);
      };
    }

-- the whole sum
pub dot_bounded : (n a b : ℕ) (cs vs : List ℤ) → ((i : ℕ) → i < n → within a (get_or cs i (pos 0)) ≡ true) → ((i : ℕ) → i < n → within b (get_or vs i (pos 0)) ≡ true) → Bounded (n * (a * b)) (dot_to n cs vs)
dot_bounded zero a b cs vs ca vb = record { low = omega (arith, ints); high = omega (arith, ints) }
dot_bounded (suc k) a b cs vs ca vb =
    let h = dot_bounded k a b cs vs (λ i l. ca i (omega arith)) (λ i l. vb i (omega arith)) in
    let p = product_bounded a b (get_or cs k (pos 0)) (get_or vs k (pos 0)) (bounded a _ (ca k (omega arith))) (bounded b _ (vb k (omega arith))) in
    rw (sym (add-one k)) (sum_bounded k (a * b) _ _ h p)

-- a bounded number as it is passed to a function, to its bits and back
pub passed_bounded : (most more : ℕ) (z : ℤ) → most ≤ more → more < 2 ^ 63 → Bounded most z → (neg_ℤ (pos more) ≤ℤ to_z w64 (of_z w64 z)) × (to_z w64 (of_z w64 z) ≤ℤ pos more)
passed_bounded most more z l h b =
    let lo = b.low in
    let hi = b.high in
    (omega (arith, ints, lo, hi), omega (arith, ints, lo, hi))
