-- The relation "is the first" has one answer, the one that `first_below` computes.
use Rattle.std.proofs.Common.{◌≡◌, ℕ, zero, suc, ◌+◌, ◌<◌, ◌≤◌, Bool, true, false, cond, Some, None, Option, sym, refl, ap, ◌∙◌, subst, inl, inr, arith}
use Rattle.std.specs.List.{find, range_with_len}
use Rattle.std.specs.Option.{MatchOption}
use Rattle.std.proofs.lemmas.Bool.{cases_eq}
use Rattle.rows.specs.Firsts.{or_else, first_below, NoneBelow, IsFirst}

-- where none passes there is no first
pub none_first : (test : ℕ → Bool) (n : ℕ) → NoneBelow test n → first_below test n ≡ None
none_first test zero h = refl
none_first test (suc n) h =
    let a = none_first test n (λ k l. h k (omega arith)) in
    let b = h n (omega arith) in
    rw (a, b)

-- one that passes, with none before it, is the first
pub some_first : (test : ℕ → Bool) (n i : ℕ) → i < n → test i ≡ true → NoneBelow test i → first_below test n ≡ Some i
some_first test zero i l e h = absurd (omega arith)
some_first test (suc n) i l e h =
    elim (cases_eq i n) [
      | inl s ↦
          let a = none_first test n (λ k m. h k (omega arith)) in
          let b : test n ≡ true = sym (ap test s) ∙ e in
          rw (a, b) (ap (λ (x : ℕ). Some x) (sym s))
      | inr s ↦ let a = some_first test n i (omega arith) e h in rw a
    ]

pub is_first : (test : ℕ → Bool) (n : ℕ) (r : Option ℕ) → IsFirst test n r → r ≡ first_below test n
is_first test n None h = sym (none_first test n h)
is_first test n (Some i) h = sym (some_first test n i h.0 h.1 h.2)

-- a loop's end: what holds below the counter holds below the count
pub none_at : (test : ℕ → Bool) (n k : ℕ) → n ≤ k → NoneBelow test k → NoneBelow test n
none_at test n k l h i m = h i (omega arith)

-- no first: none passes
pub first_none : (test : ℕ → Bool) (n : ℕ) → first_below test n ≡ None → NoneBelow test n
first_none test zero e k l = absurd (omega arith)
first_none test (suc n) e k l =
    let p = or_none (first_below test n) (test n) n e in
    elim (cases_eq k n) [ inl s ↦ ap test s ∙ p.1 | inr s ↦ first_none test n p.0 k (omega arith) ]
  where
    or_none : (o : Option ℕ) (b : Bool) (m : ℕ) → or_else o (cond b (Some m) None) ≡ None → (o ≡ None) × (b ≡ false)
    or_none None true m h = let z : ◌≡◌ {A = ℕ} 0 1 = cc in absurd (omega arith)
    or_none None false m h = (refl, refl)
    or_none (Some i) b m h = let z : ◌≡◌ {A = ℕ} 0 1 = cc in absurd (omega arith)

-- a first is one of the numbers below
pub first_some : (test : ℕ → Bool) (n i : ℕ) → first_below test n ≡ Some i → i < n
first_some test zero i e = let z : ◌≡◌ {A = ℕ} 0 1 = cc in absurd (omega arith)
first_some test (suc n) i e = from (first_below test n) (test n) (λ k h. first_some test n k h) e
  where
    from : (o : Option ℕ) (b : Bool) → ((k : ℕ) → o ≡ Some k → k < n) → or_else o (cond b (Some n) None) ≡ Some i → i < suc n
    from (Some k) b h x = let s : k ≡ i = cc in let l = h k refl in omega arith
    from None true h x = let s : n ≡ i = cc in omega arith
    from None false h x = let z : ◌≡◌ {A = ℕ} 0 1 = cc in absurd (omega arith)

-- what `find` gives over the numbers from a on
abbrev Found : (ℕ → Bool) → ℕ → ℕ → Option ℕ → Type 0
Found test a n r = MatchOption r ((k : ℕ) → a ≤ k → k < a + n → test k ≡ false) (λ i. (a ≤ i) × (i < a + n) × (test i ≡ true) × ((k : ℕ) → a ≤ k → k < i → test k ≡ false))

found : (test : ℕ → Bool) (a n : ℕ) → Found test a n (find test (range_with_len a n))
found test a zero = λ k l m. absurd (omega arith)
found test a (suc n) = step (test a) (find test (range_with_len (a + 1) n)) refl (found test (a + 1) n)
  where
    step : (b : Bool) (o : Option ℕ) → test a ≡ b → Found test (a + 1) n o → Found test a (suc n) (cond b (Some a) o)
    step true o t h = (omega arith, omega arith, t, λ k l m. absurd (omega arith))
    step false None t h = λ k l m. elim (cases_eq k a) [ inl s ↦ ap test s ∙ t | inr s ↦ h k (omega arith) (omega arith) ]
    step false (Some i) t h = (omega arith, omega arith, h.2, λ k l m. elim (cases_eq k a) [ inl s ↦ ap test s ∙ t | inr s ↦ h.3 k (omega arith) m ])

pub found_first : (test : ℕ → Bool) (n : ℕ) (r : Option ℕ) → r ≡ find test (range_with_len 0 n) → IsFirst test n r
found_first test n r e = subst (IsFirst test n) (sym e) (from (find test (range_with_len 0 n)) (found test 0 n))
  where
    from : (o : Option ℕ) → Found test 0 n o → IsFirst test n o
    from None h = λ k l. h k (omega arith) (omega arith)
    from (Some i) h = (omega arith, h.2, λ k l. h.3 k (omega arith) l)
