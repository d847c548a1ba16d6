-- The look-up's comparison, and that it says yes exactly when all its conditions hold.
use Rattle.std.proofs.Common.{◌≡◌, ℕ, true, List, [], ◌∷◌, ℤ, ◌≤ℤ◌, Ok, sym, refl, subst, arith}
use mathlib.Core.Logic.{∥∥₁_elim}
use mathlib.Core.Bool.{Bool-set}
use lib.Signed.{le_z}
use Rattle.std.specs.Cmp.Lexicographic.{pointwise}
use Rattle.std.specs.Ordering.{int_eq}
use Rattle.std.proofs.lemmas.Int.{ints}
use Rattle.std.proofs.lemmas.Bool.{eq-eqb, and_from, or_left, or_right}
use Rattle.std.specs.List.{ContainsAt as Has}
use Rattle.rows.specs.declared.numbers.Numbers.{Numbers}
use Rattle.rows.specs.Faults.{Said}
use Rattle.rows.specs.Wholes.{alike}
use Rattle.rows.proofs.Chains.{goes, checked}
use Rattle.rows.proofs.Equalities.{alike_decides, alike_is}
use Rattle.methods.specs.LooksUp.{covers, listed, search_says, look_up_says, Covers, LookUpYes}
use Rattle.methods.specs.LooksUpLaws.{listed_yes, search_yes}
use Rattle.methods.specs.OpeningLaws.{opened_yes, yes_opened}
use Rattle.methods.specs.Questions.{Question, asked, YesExactly}
use Rattle.methods.proofs.Asked.{exactly}

-- what `==` on two arrays answers
pub alike_pointwise : (xs ys : List ℤ) → pointwise int_eq xs ys ≡ alike xs ys
alike_pointwise xs ys = alike_is xs ys (pointwise int_eq xs ys) refl

le_test : (a b : ℤ) → a ≤ℤ b → le_z a b ≡ true
le_test a b h = grind (arith, ints)

yes_covers : (fact goal : Numbers) → Covers goal fact → covers fact goal ≡ true
yes_covers fact goal c =
    and_from (alike fact.coefficients goal.coefficients) (le_z fact.bound goal.bound) ((alike_decides _ _).1 c.same_coefficients) (le_test _ _ c.bound_at_most_lem)

yes_listed : (goal : Numbers) (facts : List Numbers) (fact : Numbers) → Has facts fact → Covers goal fact → listed goal facts ≡ true
yes_listed goal [] fact (k, l, h) c = absurd (omega arith)
yes_listed goal (f ∷ fs) fact (ℕ.zero, l, h) c = or_left (covers f goal) (listed goal fs) (yes_covers f goal (subst (Covers goal) (sym (h fact)) c))
yes_listed goal (f ∷ fs) fact (ℕ.suc k, l, h) c = or_right (covers f goal) (listed goal fs) (yes_listed goal fs fact (k, omega arith, h) c)

pub look_up_only : (q : Question) → look_up_says q ≡ Ok tt → LookUpYes q
look_up_only q e =
    let o = opened_yes (λ q. search_says q.facts q.goal q.certificate) q e in
    let s = search_yes q.facts q.goal q.certificate o.1 in
    record { begun = o.0; empty = s.0; stands = ∣ listed_yes q.goal q.facts s.1 ∣₁ }

pub look_up_if : (q : Question) → LookUpYes q → look_up_says q ≡ Ok tt
unfolding search_says
look_up_if q y =
    let l : listed q.goal q.facts ≡ true = ∥∥₁_elim y.stands (Bool-set _ _) (λ r. yes_listed q.goal q.facts r.0 r.1.0 r.1.1) in
    yes_opened (λ q. search_says q.facts q.goal q.certificate) q y.begun
    (sym (goes _ _ _ (checked _ _ (eq-eqb _ _ y.empty)) (checked _ _ l)))

pub look_up_exactly : (count : ℕ) (sheet : List Numbers) (goal : Numbers) (certificate : List ℕ) (said : Said) → said ≡ asked look_up_says count sheet goal certificate → YesExactly said LookUpYes count sheet goal certificate
look_up_exactly count sheet goal certificate said e = exactly count sheet goal certificate look_up_says LookUpYes said e look_up_only look_up_if
