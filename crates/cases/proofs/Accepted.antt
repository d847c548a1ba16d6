-- What an accepted verdict says of the model, part by part, and that these parts suffice. The chains of tests that the
-- other calls make are taken apart by the same lemmas.
use Rattle.std.proofs.Common.{◌≡◌, ℕ, zero, suc, Bool, true, false, cond, not, List, [], ◌∷◌, length, ℤ, Some, None, Ok, Err, Option, sym, refl, ap, ◌∙◌, inl, inr, arith}
use Rattle.std.proofs.lemmas.Int.{ints}
use Rattle.std.proofs.lemmas.Bool.{not-false}
use Rattle.rows.specs.declared.fault.Fault.{Fault}
use Rattle.rows.specs.declared.fault.FaultKind.TheVariants.{VerdictWithoutTable, VerdictWithoutWitness, VerdictWithoutState, PlaceUnlisted}
use Rattle.rows.specs.declared.numbers.Numbers.{Numbers}
use Rattle.rows.specs.Faults.{Said, fault_of}
use Rattle.rows.specs.Firsts.{NoneBelow}
use Rattle.rows.specs.Shapes.{Meets, MeetsAll}
use Rattle.rows.proofs.Chains.{both, goes, never}
use Rattle.rows.proofs.First.{first_none, none_first}
use Rattle.records.specs.Records.{TableData, PlaceData, WitnessData}
use Rattle.semantics.specs.declared.obligation.Obligation.{Obligation}
use Rattle.semantics.specs.Enumerated.{obligations_of}
use Rattle.semantics.specs.Plans.{meets, unmet, first_unmet, place_with}
use Rattle.semantics.specs.Runs.{Member}
use Rattle.semantics.specs.Vectors.{Holds, at_rest}
use Rattle.semantics.proofs.PlannedEntries.{test_met}
use Rattle.cases.specs.Model.{Model, Present}
use Rattle.cases.specs.Told.{needed, bare, condition_told, open_fault, all_shown, judged, verdict_told}

-- a yes where a part is needed: the part is there, and the rest says yes of it
pub needed_some : {A : Type 0} (o : Option A) (f : Fault) (next : A → Said) → needed o f next ≡ Ok tt → (x : A) × (o ≡ Some x) × (next x ≡ Ok tt)
needed_some None f next e = never f e
needed_some (Some x) f next e = (x, refl, e)

-- and the other way round
pub needed_from : {A : Type 0} (o : Option A) (f : Fault) (next : A → Said) (x : A) → o ≡ Some x → next x ≡ Ok tt → needed o f next ≡ Ok tt
needed_from o f next x e h = ap (λ v. needed v f next) e ∙ h

-- a row that is met passes its test
pub met_test : (point : List ℤ) (row : Numbers) → Meets point row → meets point row ≡ true
met_test point row m = grind (arith, ints)

-- rows none of which is unmet are all met
none_unmet : (point : List ℤ) (rows : List Numbers) → NoneBelow (unmet point rows) (length rows) → MeetsAll point rows
none_unmet point [] h = tt
none_unmet point (row ∷ rows) h =
    (test_met point row (not-false (meets point row) (h 0 (omega arith))), none_unmet point rows (λ k l. h (suc k) (omega arith)))

-- rows that are all met are none of them unmet
all_met : (point : List ℤ) (rows : List Numbers) → MeetsAll point rows → NoneBelow (unmet point rows) (length rows)
all_met point [] a k l = absurd (omega arith)
all_met point (row ∷ rows) a zero l = ap not (met_test point row a.0)
all_met point (row ∷ rows) a (suc k) l = all_met point rows a.1 k (omega arith)

-- no first row that is unmet: all are met, and the other way round
pub unmet_none : (point : List ℤ) (rows : List Numbers) → first_unmet point rows ≡ None → MeetsAll point rows
unmet_none point rows e = none_unmet point rows (first_none (unmet point rows) (length rows) e)

pub none_met : (point : List ℤ) (rows : List Numbers) → MeetsAll point rows → first_unmet point rows ≡ None
none_met point rows a = none_first (unmet point rows) (length rows) (all_met point rows a)

-- the condition says yes: no row is unmet
condition_none : (place : ℕ) (o : Option ℕ) → condition_told place o ≡ Ok tt → o ≡ None
condition_none place None e = refl
condition_none place (Some r) e = never _ e

-- all of some obligations are shown
all_shown-each : (shown : Obligation → Bool) (os : List Obligation) → all_shown shown os ≡ Ok tt → (o : Obligation) → Member o os → shown o ≡ true
all_shown-each shown [] e o m = absurd m
all_shown-each shown (x ∷ xs) e o m = from (shown x) refl e m (λ h i. all_shown-each shown xs h o i)
  where
    from : (b : Bool) → shown x ≡ b → cond b (all_shown shown xs) (Err (open_fault x)) ≡ Ok tt → Member o (x ∷ xs) → (all_shown shown xs ≡ Ok tt → Member o xs → shown o ≡ true) → shown o ≡ true
    from true s h (inl i) rest = sym (ap shown i) ∙ s
    from true s h (inr i) rest = rest h i
    from false s h i rest = never _ h

each_shown : (shown : Obligation → Bool) (os : List Obligation) → ((o : Obligation) → Member o os → shown o ≡ true) → all_shown shown os ≡ Ok tt
each_shown shown [] h = refl
each_shown shown (x ∷ xs) h =
    ap (λ (b : Bool). cond b (all_shown shown xs) (Err (open_fault x))) (h x (inl refl)) ∙ each_shown shown xs (λ o m. h o (inr m))

-- the parts of an accepted verdict
pub record Accepted (m : Model) : Type 0 where
  pub table : TableData
  pub witness : WitnessData
  pub present : Present
  pub at : PlaceData
  pub has_table : m.table ≡ Some table
  pub has_witness : m.witness ≡ Some witness
  pub has_present : m.present ≡ Some present
  pub listed : place_with witness present.place ≡ Some at
  pub holds : Holds present.state at.condition
  pub shown : (o : Obligation) → Member o (obligations_of table witness) → m.shown o ≡ true

pub accepted_parts : (m : Model) → verdict_told m ≡ Ok tt → Accepted m
unfolding verdict_told
accepted_parts m e =
    let t = needed_some m.table (bare VerdictWithoutTable) _ e in
    let w = needed_some m.witness (bare VerdictWithoutWitness) _ t.2 in
    let p = needed_some m.present (bare VerdictWithoutState) (judged m t.0 w.0) w.2 in
    let l = needed_some (place_with w.0 p.0.place) (fault_of PlaceUnlisted p.0.place 0 0) _ p.2 in
    let b = both (condition_told p.0.place (first_unmet (at_rest p.0.state) l.0.condition)) (all_shown m.shown (obligations_of t.0 w.0)) l.2 in
    record {
      table = t.0;
      witness = w.0;
      present = p.0;
      at = l.0;
      has_table = t.1;
      has_witness = w.1;
      has_present = p.1;
      listed = l.1;
      holds = unmet_none (at_rest p.0.state) l.0.condition (condition_none p.0.place (first_unmet (at_rest p.0.state) l.0.condition) b.0);
      shown = all_shown-each m.shown (obligations_of t.0 w.0) b.1;
    }

pub accepted_from : (m : Model) → Accepted m → verdict_told m ≡ Ok tt
unfolding verdict_told
accepted_from m a =
    needed_from m.table (bare VerdictWithoutTable) _ a.table a.has_table
    (needed_from m.witness (bare VerdictWithoutWitness) _ a.witness a.has_witness
    (needed_from m.present (bare VerdictWithoutState) (judged m a.table a.witness) a.present a.has_present
    (needed_from (place_with a.witness a.present.place) (fault_of PlaceUnlisted a.present.place 0 0) _ a.at a.listed
    (sym (goes (condition_told a.present.place (first_unmet (at_rest a.present.state) a.at.condition)) (all_shown m.shown (obligations_of a.table a.witness)) (Ok tt)
    (sym (ap (condition_told a.present.place) (none_met (at_rest a.present.state) a.at.condition a.holds)))
    (sym (each_shown m.shown (obligations_of a.table a.witness) a.shown)))))))
