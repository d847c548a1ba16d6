-- The test over the multipliers, one by one, and what a yes of it says of each.
use Rattle.std.proofs.Common.{◌≡◌, ℕ, zero, suc, ◌+◌, ◌*◌, ◌<◌, ◌≤◌, leb, List, [], ◌∷◌, length, drop, Ok, Err, sym, refl, ap, ◌∙◌, subst, arith}
use Rattle.std.proofs.lemmas.List.{at_drop_more, at_drop_all}
use Rattle.std.proofs.lemmas.Bool.{and_parts, and_from, leb-true, le-leb}
use Rattle.rows.specs.declared.fault.Fault.{Fault}
use Rattle.rows.specs.declared.numbers.Numbers.{Numbers}
use Rattle.rows.specs.Faults.{Said, ◌and_then◌}
use Rattle.rows.specs.Bytes.{word_at}
use Rattle.methods.specs.Weights.{most_weight, range_says, weights_say}
use Rattle.rows.proofs.Chains.{both, check_true, checked, goes}

next_word : (at i : ℕ) → at + 2 * i + 2 ≡ at + 2 * (i + 1)
next_word at i = omega arith

-- a loop over the multipliers: what is left says what the whole says
module _ (bytes : List ℕ) (at : ℕ) (facts : List Numbers) (i : ℕ) (inv : weights_say bytes (at + 2 * i) (drop i facts) ≡ weights_say bytes at facts) where
  step : (d : Numbers) → i < length facts → weights_say bytes at facts ≡ (range_says 0 bytes (at + 2 * i) and_then weights_say bytes (at + 2 * (i + 1)) (drop (i + 1) facts))
  step d l =
      let s : weights_say bytes (at + 2 * i) (drop i facts) ≡ (range_says 0 bytes (at + 2 * i) and_then weights_say bytes (at + 2 * i + 2) (drop (i + 1) facts)) = at_drop_more (weights_say bytes (at + 2 * i)) facts i d l in
      sym inv ∙ s ∙ ap (λ (n : ℕ). range_says 0 bytes (at + 2 * i) and_then weights_say bytes n (drop (i + 1) facts)) (next_word at i)

  pub weights_fault : (d : Numbers) (f : Fault) → i < length facts → Err f ≡ range_says 0 bytes (at + 2 * i) → Err f ≡ weights_say bytes at facts
  weights_fault d f l e = ap (λ (x : Said). x and_then weights_say bytes (at + 2 * (i + 1)) (drop (i + 1) facts)) e ∙ sym (step d l)

  pub weights_more : (d : Numbers) → i < length facts → Ok tt ≡ range_says 0 bytes (at + 2 * i) → weights_say bytes (at + 2 * (i + 1)) (drop (i + 1) facts) ≡ weights_say bytes at facts
  weights_more d l e = ap (λ (x : Said). x and_then weights_say bytes (at + 2 * (i + 1)) (drop (i + 1) facts)) e ∙ sym (step d l)

  pub weights_all : length facts ≤ i → Ok tt ≡ weights_say bytes at facts
  weights_all l = sym (at_drop_all (weights_say bytes (at + 2 * i)) facts i l) ∙ inv

pub range_yes : (least : ℕ) (bytes : List ℕ) (at : ℕ) → range_says least bytes at ≡ Ok tt → (least ≤ word_at bytes at) × (word_at bytes at ≤ most_weight)
range_yes least bytes at e =
    let p = and_parts (leb least (word_at bytes at)) (leb (word_at bytes at) most_weight) (check_true _ _ e) in
    (leb-true _ _ p.0, leb-true _ _ p.1)

pub yes_range : (least : ℕ) (bytes : List ℕ) (at : ℕ) → least ≤ word_at bytes at → word_at bytes at ≤ most_weight → Ok tt ≡ range_says least bytes at
yes_range least bytes at l h = checked _ _ (and_from (leb least (word_at bytes at)) (leb (word_at bytes at) most_weight) (le-leb _ _ l) (le-leb _ _ h))

-- a yes says that each multiplier is in range
pub weights_yes : (bytes : List ℕ) (at : ℕ) (facts : List Numbers) → weights_say bytes at facts ≡ Ok tt → (i : ℕ) → i < length facts → word_at bytes (at + 2 * i) ≤ most_weight
weights_yes bytes at [] e i l = absurd (omega arith)
weights_yes bytes at (f ∷ fs) e zero l =
    let p = both (range_says 0 bytes at) (weights_say bytes (at + 2) fs) e in
    let z : at + 2 * 0 ≡ at = omega arith in
    subst (λ (n : ℕ). word_at bytes n ≤ most_weight) (sym z) (range_yes 0 bytes at p.0).1
weights_yes bytes at (f ∷ fs) e (suc i) l =
    let p = both (range_says 0 bytes at) (weights_say bytes (at + 2) fs) e in
    let z : at + 2 + 2 * i ≡ at + 2 * suc i = omega arith in
    subst (λ (n : ℕ). word_at bytes n ≤ most_weight) z (weights_yes bytes (at + 2) fs p.1 i (omega arith))

-- and the other way round
pub yes_weights : (bytes : List ℕ) (at : ℕ) (facts : List Numbers) → ((i : ℕ) → i < length facts → word_at bytes (at + 2 * i) ≤ most_weight) → Ok tt ≡ weights_say bytes at facts
yes_weights bytes at [] h = refl
yes_weights bytes at (f ∷ fs) h =
    let z : at + 2 * 0 ≡ at = omega arith in
    let here = subst (λ (n : ℕ). word_at bytes n ≤ most_weight) z (h 0 (omega arith)) in
    let rest : (i : ℕ) → i < length fs → word_at bytes (at + 2 + 2 * i) ≤ most_weight =
    λ i l. let e : at + 2 * suc i ≡ at + 2 + 2 * i = omega arith in subst (λ (n : ℕ). word_at bytes n ≤ most_weight) e (h (suc i) (omega arith)) in
    goes _ _ _ (yes_range 0 bytes at (omega arith) here) (yes_weights bytes (at + 2) fs rest)
