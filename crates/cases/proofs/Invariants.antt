-- What holds of every model that calls lead to: its table is valid, its witness fits the table, a run from an initial state
-- reaches the present place and state, and every obligation that was shown holds.
use Rattle.std.proofs.Common.{◌≡◌, ℕ, Bool, true, List, [], ◌∷◌, ℤ, Some, None, Ok, Option, sym, refl, ◌∙◌, subst, ap₂, subst₂}
use Rattle.std.proofs.lemmas.Bool.{false≢true}
use Rattle.rows.specs.declared.fault.FaultKind.TheVariants.{AdmitWithoutTable, BeginWithoutTable, AdvanceWithoutState, AdvanceTransition, AddWithoutWitness, AddToUnknown}
use Rattle.methods.specs.Questions.{Meaning, Lawful}
use Rattle.records.specs.Records.{TransitionData, TableData, WitnessData, shape_of}
use Rattle.formats.specs.Valid.{ValidTable, ValidWitness}
use Rattle.semantics.specs.declared.obligation.Obligation.{Obligation}
use Rattle.semantics.specs.Laws.{Fitting}
use Rattle.semantics.specs.Plans.{transition_with, inner_with, place_with}
use Rattle.cases.specs.Calls.{Call, Open, Admit, Begin, Advance, Strengthen, Restrict, Prove, Verdict, Unroll}
use Rattle.cases.specs.Model.{Making, Model, Present, empty, none_shown, with_shown}
use Rattle.cases.specs.Told.{bare, open_told, admit_told, begin_told, starting_at, advance_told, strengthen_told, restrict_told, prove_told, admit_for, begin_for}
use Rattle.cases.specs.Worked.{after, opened, admitted, witness_for, begun, first_state, advanced, next_present, stepped, with_condition, with_restriction, with_witness, marked, worked_from, worked}
use Rattle.cases.proofs.Accepted.{needed_some}
use Rattle.cases.proofs.AddedRows.{strengthened, restricted, strengthened_valid, restricted_valid}
use Rattle.cases.proofs.ShownTrue.{Proven, Grown, proven_grown, strengthened_grown, restricted_grown, yes_proven, marked_proven}
use Rattle.cases.proofs.Standing.{prove_parts}
use Rattle.cases.proofs.Steps.{done_kept, opened_valid, admitted_valid}
use Rattle.cases.proofs.Traces.{Traced, begun_traced, advanced_traced}

-- of the table, the witness, the present place and state, and what was shown, where there are any
abbrev pub TableValid : Option TableData → Type 0
TableValid None = Unit {0}
TableValid (Some table) = ValidTable table

abbrev pub WitnessFits : Option TableData → Option WitnessData → Type 0
WitnessFits table None = Unit {0}
WitnessFits None (Some witness) = ⊥
WitnessFits (Some table) (Some witness) = ValidWitness table.transitions (shape_of table.heading) witness

abbrev pub PresentTraced : Option TableData → Option Present → Type 0
PresentTraced table None = Unit {0}
PresentTraced None (Some p) = ⊥
PresentTraced (Some table) (Some p) = Traced table p

abbrev pub ShownProven : Option TableData → Option WitnessData → (Obligation → Bool) → Type 0
ShownProven None witness shown = Unit {0}
ShownProven (Some table) None shown = Unit {0}
ShownProven (Some table) (Some witness) shown = (o : Obligation) → shown o ≡ true → Proven table witness o

pub record Sound (m : Model) : Type 0 where
  pub table_valid : TableValid m.table
  pub witness_fits : WitnessFits m.table m.witness
  pub present_traced : PresentTraced m.table m.present
  pub shown_proven : ShownProven m.table m.witness m.shown

pub empty_sound : (making : Making) → Sound (empty making)
empty_sound making = record { table_valid = tt; witness_fits = tt; present_traced = tt; shown_proven = tt }

-- where a model has its parts: the witness fits the table, the present state is traced, and what was shown holds
module _ (m : Model) (s : Sound m) (table : TableData) (has : m.table ≡ Some table) where
  pub valid : ValidTable table
  valid = subst TableValid has s.table_valid

  pub fitting : (witness : WitnessData) → m.witness ≡ Some witness → Fitting table witness
  fitting witness w = record { valid_table = valid; valid_witness = subst₂ WitnessFits has w s.witness_fits }

  pub traced : (p : Present) → m.present ≡ Some p → Traced table p
  traced p e = subst₂ PresentTraced has e s.present_traced

  pub proven : (witness : WitnessData) → m.witness ≡ Some witness → (o : Obligation) → m.shown o ≡ true → Proven table witness o
  proven witness w = subst₂ (λ (t : Option TableData) (v : Option WitnessData). ShownProven t v m.shown) has w s.shown_proven

-- open: a valid table, and nothing else
opened_sound : (m : Model) (bytes : List ℕ) → open_told m.making bytes ≡ Ok tt → Sound (opened m bytes)
opened_sound m bytes e = record { table_valid = opened_valid m.making bytes e; witness_fits = tt; present_traced = tt; shown_proven = tt }

-- admit: a witness that fits, and nothing shown
none_shown_lem : (table : Option TableData) (witness : Option WitnessData) → ShownProven table witness none_shown
none_shown_lem None witness = tt
none_shown_lem (Some table) None = tt
none_shown_lem (Some table) (Some witness) = λ o e. absurd (false≢true e)

admitted_sound : (m : Model) (bytes : List ℕ) → Sound m → admit_told m bytes ≡ Ok tt → Sound (admitted m bytes)
unfolding admit_told
admitted_sound m bytes s e =
    let t = needed_some m.table (bare AdmitWithoutTable) (admit_for bytes) e in
    record {
      table_valid = s.table_valid;
      witness_fits = subst (λ (o : Option TableData). WitnessFits o (witness_for o bytes)) (sym t.1) (admitted_valid t.0 bytes (valid m s t.0 t.1) t.2);
      present_traced = s.present_traced;
      shown_proven = none_shown_lem m.table (witness_for m.table bytes);
    }

-- begin: a trace of no step
begun_sound : (m : Model) (values : List ℤ) → Sound m → begin_told m values ≡ Ok tt → Sound (begun m values)
unfolding begin_told
begun_sound m values s e =
    let t = needed_some m.table (bare BeginWithoutTable) (begin_for values) e in
    record {
      table_valid = s.table_valid;
      witness_fits = s.witness_fits;
      present_traced = subst (λ (o : Option TableData). PresentTraced o (first_state o values)) (sym t.1) (begun_traced t.0 values t.2);
      shown_proven = s.shown_proven;
    }

-- advance: a trace of one step more
advanced_sound : (m : Model) (n : ℕ) (choices : List ℤ) → Sound m → advance_told m n choices ≡ Ok tt → Sound (advanced m n choices)
unfolding advance_told
advanced_sound m n choices s e =
    let p = needed_some m.present (bare AdvanceWithoutState) _ e in
    let t = needed_some m.table (bare AdvanceWithoutState) _ p.2 in
    let x = needed_some (starting_at p.0.place (transition_with t.0 n)) (bare AdvanceTransition) _ t.2 in
    let step = advanced_traced t.0 (valid m s t.0 t.1) p.0 (traced m s t.0 t.1 p.0 p.1) n m.steps choices x.0 x.1 x.2 in
    let found = subst (λ (o : Option TransitionData). PresentTraced (Some t.0) (stepped o p.0.state choices)) (sym x.1) step in
    record {
      table_valid = s.table_valid;
      witness_fits = s.witness_fits;
      present_traced = subst₂ (λ (o : Option TableData) (q : Option Present). PresentTraced o (next_present o q n choices)) (sym t.1) (sym p.1) found;
      shown_proven = s.shown_proven;
    }

-- strengthen and restrict: the witness still fits, and what was shown still holds
module _ (m : Model) (s : Sound m) (table : TableData) (w : WitnessData) (has_table : m.table ≡ Some table) (has_witness : m.witness ≡ Some w) where
  regrown : (change : Option TableData → Option WitnessData → Option WitnessData) (v : WitnessData) → change (Some table) (Some w) ≡ Some v → ValidWitness table.transitions (shape_of table.heading) v → Grown w v → Sound (with_witness m (change m.table m.witness))
  regrown change v is-v fits grown =
      let e : change m.table m.witness ≡ Some v = ap₂ change has_table has_witness ∙ is-v in
      record {
        table_valid = s.table_valid;
        witness_fits = subst₂ WitnessFits (sym has_table) (sym e) fits;
        present_traced = s.present_traced;
        shown_proven = subst₂ (λ (t : Option TableData) (x : Option WitnessData). ShownProven t x m.shown) (sym has_table) (sym e) (λ o h. proven_grown table w v grown o (proven m s table has_table w has_witness o h));
      }

strengthened_sound : (m : Model) (place : ℕ) (numbers : List ℤ) → Sound m → strengthen_told m place numbers ≡ Ok tt → Sound (with_witness m (with_condition m.table m.witness place numbers))
unfolding strengthen_told
strengthened_sound m place numbers s e =
    let w = needed_some m.witness (bare AddWithoutWitness) _ e in
    let t = needed_some m.table (bare AddWithoutWitness) _ w.2 in
    let p = needed_some (place_with w.0 place) (bare AddToUnknown) _ t.2 in
    let fit = (fitting m s t.0 t.1 w.0 w.1).valid_witness in
    regrown m s t.0 w.0 t.1 w.1 (λ x y. with_condition x y place numbers) (strengthened t.0 w.0 place numbers) refl
    (strengthened_valid t.0 w.0 place numbers fit p.0 p.1 p.2) (strengthened_grown t.0 w.0 place numbers)

restricted_sound : (m : Model) (n : ℕ) (numbers : List ℤ) → Sound m → restrict_told m n numbers ≡ Ok tt → Sound (with_witness m (with_restriction m.table m.witness n numbers))
unfolding restrict_told
restricted_sound m n numbers s e =
    let w = needed_some m.witness (bare AddWithoutWitness) _ e in
    let t = needed_some m.table (bare AddWithoutWitness) _ w.2 in
    let i = needed_some (inner_with w.0 n) (bare AddToUnknown) _ t.2 in
    let fit = (fitting m s t.0 t.1 w.0 w.1).valid_witness in
    regrown m s t.0 w.0 t.1 w.1 (λ x y. with_restriction x y n numbers) (restricted t.0 w.0 n numbers) refl
    (restricted_valid t.0 w.0 n numbers fit i.0 i.1 i.2) (restricted_grown t.0 w.0 n numbers)

-- prove: one obligation more that holds
marked_sound : (m : Model) (meaning : Meaning) → Lawful meaning → (o : Obligation) (certificate : List ℕ) (rows : ℕ) → Sound m → prove_told m meaning o certificate rows ≡ Ok tt → Sound (marked m o)
marked_sound m meaning lawful o certificate rows s e =
    let p = prove_parts m meaning o certificate rows e in
    let yes = yes_proven p.table p.witness (fitting m s p.table p.has_table p.witness p.has_witness) meaning lawful o certificate rows p.asks p.found p.yes in
    record {
      table_valid = s.table_valid;
      witness_fits = s.witness_fits;
      present_traced = s.present_traced;
      shown_proven = subst₂ (λ (t : Option TableData) (w : Option WitnessData). ShownProven t w (with_shown o m.shown)) (sym p.has_table) (sym p.has_witness) (marked_proven (Proven p.table p.witness) o m.shown yes (proven m s p.table p.has_table p.witness p.has_witness));
    }

-- every call keeps it
pub after_sound : (c : Call) (m : Model) → Sound m → Sound (after c m)
unfolding after
after_sound (Open bytes) m s = done_kept Sound (open_told m.making bytes) (opened m bytes) m (λ e. opened_sound m bytes e) s
after_sound (Admit bytes) m s = done_kept Sound (admit_told m bytes) (admitted m bytes) m (λ e. admitted_sound m bytes s e) s
after_sound (Begin values) m s = done_kept Sound (begin_told m values) (begun m values) m (λ e. begun_sound m values s e) s
after_sound (Advance n choices) m s = done_kept Sound (advance_told m n choices) (advanced m n choices) m (λ e. advanced_sound m n choices s e) s
after_sound (Strengthen place numbers) m s = done_kept Sound (strengthen_told m place numbers) (with_witness m (with_condition m.table m.witness place numbers)) m (λ e. strengthened_sound m place numbers s e) s
after_sound (Restrict n numbers) m s = done_kept Sound (restrict_told m n numbers) (with_witness m (with_restriction m.table m.witness n numbers)) m (λ e. restricted_sound m n numbers s e) s
after_sound (Prove meaning lawful o certificate rows) m s = done_kept Sound (prove_told m meaning o certificate rows) (marked m o) m (λ e. marked_sound m meaning lawful o certificate rows s e) s
after_sound Verdict m s = s
after_sound (Unroll n room) m s = s

-- so it holds after any list of calls
from_sound : (m : Model) (calls : List Call) → Sound m → Sound (worked_from m calls)
from_sound m [] s = s
from_sound m (c ∷ cs) s = from_sound (after c m) cs (after_sound c m s)

pub worked_sound : (making : Making) (calls : List Call) → Sound (worked making calls)
worked_sound making calls = from_sound (empty making) calls (empty_sound making)
