-- The entry that a plan takes in a state: the first whose test is met, else the last. What the obligations call its facts
-- is met there.
use Rattle.std.proofs.Common.{◌≡◌, ℕ, suc, Bool, true, false, cond, List, [], ◌∷◌, ℤ, refl, ap, arith}
use Rattle.std.proofs.lemmas.Int.{ints}
use Rattle.std.proofs.lemmas.Bool.{cond_both}
use Rattle.std.specs.List.{AllByRecursion}
use Rattle.rows.specs.declared.numbers.Numbers.{Numbers}
use Rattle.rows.specs.Shapes.{Meets, MeetsAll, opposite_of}
use Rattle.rows.proofs.Opposites.{opposite_turns}
use Rattle.records.specs.Records.{EntryData, PlaceData}
use Rattle.semantics.specs.Obligations.{Entry, tested, final}
use Rattle.semantics.specs.Plans.{meets, planned}

-- the test of a row, as it is met
pub test_met : (point : List ℤ) (row : Numbers) → meets point row ≡ true → Meets point row
test_met point row e = grind (arith, ints)

pub test_not_met : (point : List ℤ) (row : Numbers) → meets point row ≡ false → Meets point row → ⊥
test_not_met point row e m = grind (arith, ints)

-- what holds of every entry's transition holds of the planned one
pub planned_fits : (P : ℕ → Type 0) (point : List ℤ) (entries : List EntryData) (last : ℕ) → AllByRecursion (λ e. P e.transition) entries → P last → P (planned point entries last)
planned_fits P point [] last a l = l
planned_fits P point (e ∷ es) last a l =
    cond_both (meets point e.test) e.transition (planned point es last) P (λ _. a.0) (λ _. planned_fits P point es last a.1 l)

-- a place with other entries
abbrev pub with_entries : PlaceData → List EntryData → PlaceData
with_entries p entries = record { number = p.number; condition = p.condition; tested = entries; last = p.last }

-- the entry that is taken, with its facts
pub record Taken (p : PlaceData) (point : List ℤ) (n : ℕ) : Type 0 where
  pub index : ℕ
  pub facts : List Numbers
  pub entry : Entry p index n facts
  pub met : MeetsAll point facts

entry_later : (p : PlaceData) (x : EntryData) (es : List EntryData) (e n : ℕ) (facts : List Numbers) → Entry (with_entries p es) e n facts → Entry (with_entries p (x ∷ es)) (suc e) n (opposite_of x.test ∷ facts)
entry_later p x es e n facts (tested entry found number is) = tested entry found number (ap (λ fs. opposite_of x.test ∷ fs) is)
entry_later p x es e n facts (final index number is) = final (ap suc index) number (ap (λ fs. opposite_of x.test ∷ fs) is)

pub entry_taken : (p : PlaceData) (point : List ℤ) (es : List EntryData) → Taken (with_entries p es) point (planned point es p.last)
entry_taken p point [] = record { index = 0; facts = []; entry = final refl refl refl; met = tt }
entry_taken p point (x ∷ es) = from (meets point x.test) refl (entry_taken p point es)
  where
    from : (b : Bool) → meets point x.test ≡ b → Taken (with_entries p es) point (planned point es p.last) → Taken (with_entries p (x ∷ es)) point (cond b x.transition (planned point es p.last))
    from true e later = record { index = 0; facts = x.test ∷ []; entry = tested x refl refl refl; met = (test_met point x.test e, tt) }
    from false e later =
        record {
          index = suc later.index;
          facts = opposite_of x.test ∷ later.facts;
          entry = entry_later p x es later.index _ later.facts later.entry;
          met = ((opposite_turns x.test).one point (test_not_met point x.test e), later.met);
        }
