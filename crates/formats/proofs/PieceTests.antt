-- Where the search for a piece stops, and what is found; what tests over a range give; what is given after tests.
use Rattle.std.proofs.Common.{◌≡◌, ℕ, zero, suc, ◌+◌, ◌<◌, ◌≤◌, List, length, Ok, Err, refl, ap, ◌∙◌, inl, inr, add-one, arith}
use Rattle.std.proofs.lemmas.Bool.{le-leb, lt-leb, leb-true, cases_eq}
use Rattle.rows.specs.declared.fault.Fault.{Fault}
use Rattle.rows.specs.declared.fault.FaultKind.{FaultKind}
use Rattle.rows.specs.Faults.{Said}
use Rattle.rows.proofs.Chains.{stops, goes, checked, failed, both, check_true}
use Rattle.formats.specs.Pieces.{each_says, giving, fault_at, rest_from, piece_end, piece_says}

module _ (kind : FaultKind) (bytes : List ℕ) (at : ℕ) where
  pub no_length : length bytes < rest_from at → Err (fault_at kind at) ≡ piece_says kind bytes at
  unfolding piece_says
  no_length h = stops _ _ _ (failed _ _ (lt-leb _ _ h))

  pub no_rest : rest_from at ≤ length bytes → length bytes < piece_end bytes at → Err (fault_at kind at) ≡ piece_says kind bytes at
  unfolding piece_says
  no_rest h k = goes _ _ _ (checked _ _ (le-leb _ _ h)) (failed _ _ (lt-leb _ _ k))

  pub found : piece_end bytes at ≤ length bytes → Ok tt ≡ piece_says kind bytes at
  unfolding piece_says
  found h = goes _ _ _ (checked _ _ (le-leb _ _ (front h))) (checked _ _ (le-leb _ _ h))
    where
      front : piece_end bytes at ≤ length bytes → rest_from at ≤ length bytes
      front k = omega arith

  pub found_ends : piece_says kind bytes at ≡ Ok tt → piece_end bytes at ≤ length bytes
  unfolding piece_says
  found_ends e = leb-true _ _ (check_true _ _ (both _ _ e).1)

-- a fault of an earlier test is that of the range
pub each_stops : (test : ℕ → Said) (n i : ℕ) (f : Fault) → i < n → Ok tt ≡ each_says test i → Err f ≡ test i → Err f ≡ each_says test n
each_stops test zero i f l e h = absurd (omega arith)
each_stops test (suc n) i f l e h =
    elim (cases_eq i n) [
      | inl s ↦ goes _ _ _ (e ∙ ap (each_says test) s) (h ∙ ap test s)
      | inr s ↦ stops _ _ _ (each_stops test n i f (omega arith) e h)
    ]

-- one test more
pub each_more : (test : ℕ → Said) (i : ℕ) → Ok tt ≡ each_says test i → Ok tt ≡ test i → Ok tt ≡ each_says test (i + 1)
each_more test i e h = rw add-one (goes _ _ _ e h)

-- what is given after tests
module _ {X : Type 0} (x : X) where
  pub given_fault : (said : Said) (f : Fault) → Err f ≡ said → Err f ≡ (giving said x)
  given_fault said f e = ap (λ (s : Said). giving s x) e

  pub given : (said : Said) (y : X) → Ok tt ≡ said → y ≡ x → Ok y ≡ (giving said x)
  given said y e h = ap (λ (z : X). Ok z) h ∙ ap (λ (s : Said). giving s x) e

  -- and back
  pub given_ok : (said : Said) (y : X) → Ok y ≡ (giving said x) → (Ok tt ≡ said) × (y ≡ x)
  given_ok (Ok tt) y e = (refl, cc)
  given_ok (Err f) y e = let z : ◌≡◌ {A = ℕ} 0 1 = cc in absurd (omega arith)

  pub given_err : (said : Said) (f : Fault) → Err f ≡ (giving said x) → Err f ≡ said
  given_err (Ok tt) f e = let z : ◌≡◌ {A = ℕ} 0 1 = cc in absurd (omega arith)
  given_err (Err g) f e = cc
