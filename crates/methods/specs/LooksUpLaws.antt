-- Proofs, and nothing to believe: the laws of the look-up. They stand here since the method's contract hands them on,
-- and a contract may name no file of proofs/.
use Rattle.std.specs.Prelude.{◌≡◌, ℕ, suc, ◌≤◌, true, List, [], ◌∷◌, length, ℤ, ◌≤ℤ◌, Ok, Err, ◌==◌, int_le, refl}
use Rattle.std.proofs.Common.{subst, inl, inr, arith}
use Rattle.std.proofs.ByRecursion.{all-has}
use Rattle.std.proofs.lemmas.Int.{ints}
use Rattle.std.proofs.lemmas.Bool.{and_parts, or_cases, eqb-true}
use Rattle.std.specs.List.{ContainsAt as Has}
use Rattle.rows.specs.declared.fault.Fault.{Fault}
use Rattle.rows.specs.declared.fault.FaultKind.TheVariants.{CertificateLength, BoundNotShown}
use Rattle.rows.specs.declared.numbers.Numbers.{Numbers}
use Rattle.rows.specs.Faults.{fault_of, check}
use Rattle.rows.specs.Limits.{columns}
use Rattle.rows.specs.Shapes.{dot, Meets, MeetsAll}
use Rattle.rows.specs.Wholes.{alike}
use Rattle.rows.proofs.Chains.{both, check_true, check_first, check_place}
use Rattle.rows.proofs.Equalities.{alike_decides}
use Rattle.methods.specs.LooksUp.{covers, listed, search_says, look_up_says, Covers}
use Rattle.methods.specs.OpeningLaws.{opened_yes, opened_place}
use Rattle.methods.specs.Questions.{Lawful}

le_from : (a b : ℤ) → int_le a b ≡ true → a ≤ℤ b
le_from a b e = omega (arith, ints)

pub covers_yes : (fact goal : Numbers) → covers fact goal ≡ true → Covers goal fact
covers_yes fact goal e =
    let p = and_parts (alike fact.coefficients goal.coefficients) (int_le fact.bound goal.bound) e in
    record { same_coefficients = (alike_decides fact.coefficients goal.coefficients).0 p.0; bound_at_most_lem = le_from _ _ p.1 }

has_here : (x : Numbers) (xs : List Numbers) → Has (x ∷ xs) x
has_here x xs = (0, omega arith, λ d. refl)

has_later : (x y : Numbers) (xs : List Numbers) → Has xs y → Has (x ∷ xs) y
has_later x y xs (k, l, h) = (suc k, omega arith, h)

-- a yes of the search finds a fact
pub listed_yes : (goal : Numbers) (facts : List Numbers) → listed goal facts ≡ true → (fact : Numbers) × (Has facts fact × Covers goal fact)
listed_yes goal [] e = let z : ◌≡◌ {A = ℕ} 0 1 = cc in absurd (omega arith)
listed_yes goal (f ∷ fs) e =
    elim (or_cases (covers f goal) (listed goal fs) e) [
      | inl a ↦ (f, (has_here f fs, covers_yes f goal a))
      | inr b ↦ let r = listed_yes goal fs b in (r.0, (has_later f r.0 fs r.1.0, r.1.1))
    ]

le_trans : (a b c : ℤ) → a ≤ℤ b → b ≤ℤ c → a ≤ℤ c
le_trans a b c h k = omega (arith, ints)

-- a point that meets the fact meets the goal
covered : (goal fact : Numbers) (point : List ℤ) → Covers goal fact → Meets point fact → Meets point goal
covered goal fact point c m =
    subst (λ (cs : List ℤ). dot cs point ≤ℤ goal.bound) c.same_coefficients (le_trans _ _ _ m c.bound_at_most_lem)

pub search_yes : (facts : List Numbers) (goal : Numbers) (certificate : List ℕ) → search_says facts goal certificate ≡ Ok tt → (length certificate ≡ 0) × (listed goal facts ≡ true)
unfolding search_says
search_yes facts goal certificate e =
    let p = both (check (length certificate == 0) (fault_of CertificateLength 0 0 0)) (check (listed goal facts) (fault_of BoundNotShown 0 0 columns)) e in
    (eqb-true _ _ (check_true _ _ p.0), check_true _ _ p.1)

search_sound : (facts : List Numbers) (goal : Numbers) (certificate : List ℕ) → search_says facts goal certificate ≡ Ok tt → (point : List ℤ) → MeetsAll point facts → Meets point goal
search_sound facts goal certificate e point m =
    let r = listed_yes goal facts (search_yes facts goal certificate e).1 in
    covered goal r.0 point r.1.1 (all-has (Meets point) facts r.0 m r.1.0)

search_placed : (facts : List Numbers) (goal : Numbers) (certificate : List ℕ) (f : Fault) → search_says facts goal certificate ≡ Err f → f.place ≤ length certificate
unfolding search_says
search_placed facts goal certificate f e =
    check_first (length certificate == 0) CertificateLength 0 (check (listed goal facts) (fault_of BoundNotShown 0 0 columns)) f e
    (λ z. omega arith)
    (λ t h. let p = check_place (listed goal facts) BoundNotShown columns f h in omega arith)

pub look_up_lawful : Lawful look_up_says
look_up_lawful =
    record {
      sound = λ q e. search_sound q.facts q.goal q.certificate (opened_yes (λ q. search_says q.facts q.goal q.certificate) q e).1;
      placed = λ q f e. opened_place (λ q. search_says q.facts q.goal q.certificate) q f e (λ z. omega arith) (search_placed q.facts q.goal q.certificate f);
    }
