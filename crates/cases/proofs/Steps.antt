-- What a call that is not refused has passed, in the words of the definitions; and that a refused call changes nothing.
use Rattle.std.proofs.Common.{◌≡◌, ℕ, zero, suc, Bool, true, false, cond, eqb, ltb, List, [], ◌∷◌, length, get_or, ℤ, pos, Some, None, Ok, Err, Option, refl, ap, subst}
use Rattle.std.proofs.lemmas.Bool.{ltb-true, eqb-true, and_parts}
use Rattle.rows.specs.declared.fault.Fault.{Fault}
use Rattle.rows.specs.declared.fault.FaultKind.TheVariants.{TableVersion, WitnessVersion}
use Rattle.rows.specs.Faults.{Said}
use Rattle.rows.specs.Limits.{within}
use Rattle.rows.proofs.Chains.{never, both}
use Rattle.records.specs.Records.{TransitionData, TableData, shape_of}
use Rattle.formats.specs.Pieces.{fault_at, giving, version_says}
use Rattle.formats.specs.Tables.{table_at, content_says, table_says, memory_says, open_says}
use Rattle.formats.specs.Valid.{ValidTable, ValidWitness}
use Rattle.formats.specs.Witnesses.{witness_at, witness_says}
use Rattle.formats.specs.Writing.{AreBytes}
use Rattle.formats.proofs.FieldTests.{passes_then}
use Rattle.formats.proofs.TablesWritten.{table_exactly}
use Rattle.formats.proofs.WitnessesWritten.{witness_exactly}
use Rattle.semantics.proofs.Members.{none_some, same_some}
use Rattle.cases.specs.Model.{Making, Model}
use Rattle.cases.specs.Told.{all_within, numbers_fit, are_bytes, open_told, admit_for, starting_at}
use Rattle.cases.specs.Worked.{done}

-- what holds of the model before a call, and of the new one where the call is not refused, holds afterwards
pub done_kept : (P : Model → Type 0) (said : Said) (new old : Model) → (said ≡ Ok tt → P new) → P old → P (done said new old)
done_kept P (Ok u) new old f h = f refl
done_kept P (Err x) new old f h = h

-- a test in front of others
pub cond_passed : (test : Bool) (said : Said) (f : Fault) → cond test said (Err f) ≡ Ok tt → (test ≡ true) × (said ≡ Ok tt)
cond_passed true said f e = (refl, e)
cond_passed false said f e = never f e

-- so many numbers
pub numbers_counted : (most n : ℕ) (numbers : List ℤ) → numbers_fit most n numbers ≡ true → length numbers ≡ n
numbers_counted most n numbers e = eqb-true (length numbers) n (and_parts (eqb (length numbers) n) (all_within most numbers) e).0

-- each of them, and zero behind them, within the limit
pub numbers_within : (most : ℕ) (numbers : List ℤ) → within most (pos 0) ≡ true → all_within most numbers ≡ true → (k : ℕ) → within most (get_or numbers k (pos 0)) ≡ true
numbers_within most [] z e k = z
numbers_within most (n ∷ ns) z e zero = (and_parts (within most n) (all_within most ns) e).0
numbers_within most (n ∷ ns) z e (suc k) = numbers_within most ns z (and_parts (within most n) (all_within most ns) e).1 k

-- bytes that pass are bytes
pub bytes_are : (bytes : List ℕ) → are_bytes bytes ≡ true → AreBytes bytes
bytes_are [] e = tt
bytes_are (b ∷ bs) e =
    let p = and_parts (ltb b 256) (are_bytes bs) e in
    (ltb-true b 256 p.0, bytes_are bs p.1)

-- a transition that starts at a place
pub starting_parts : (place : ℕ) (o : Option TransitionData) (t : TransitionData) → starting_at place o ≡ Some t → (o ≡ Some t) × (t.start ≡ place)
starting_parts place None t e = none_some t e
starting_parts place (Some x) t e = from (eqb x.start place) refl e
  where
    from : (b : Bool) → eqb x.start place ≡ b → cond b (Some x) None ≡ Some t → (Some x ≡ Some t) × (t.start ≡ place)
    from true h s = (s, subst (λ (y : TransitionData). y.start ≡ place) (same_some x t s) (eqb-true x.start place h))
    from false h s = none_some t s

-- a table that is opened is valid
pub opened_valid : (making : Making) (bytes : List ℕ) → open_told making bytes ≡ Ok tt → ValidTable (table_at bytes)
unfolding open_told
opened_valid making bytes e =
    let p = cond_passed (are_bytes bytes) (open_says making.transitions making.places making.inners bytes) (fault_at TableVersion 0) e in
    let v = both (version_says TableVersion bytes) _ p.1 in
    let c = both (memory_says making.transitions making.places making.inners) (content_says bytes) v.1 in
    let says : table_says bytes ≡ Ok tt = passes_then (version_says TableVersion bytes) (content_says bytes) v.0 c.1 in
    ((table_exactly bytes (bytes_are bytes p.0)).only_written (table_at bytes) (ap (λ (s : Said). giving s (table_at bytes)) says)).0

-- a witness that is admitted fits the table
pub admitted_valid : (table : TableData) (bytes : List ℕ) → ValidTable table → admit_for bytes table ≡ Ok tt → ValidWitness table.transitions (shape_of table.heading) (witness_at (shape_of table.heading) bytes)
admitted_valid table bytes valid e =
    let shape = shape_of table.heading in
    let p = cond_passed (are_bytes bytes) (witness_says table.transitions shape bytes) (fault_at WitnessVersion 0) e in
    ((witness_exactly table.transitions shape valid.heading.within bytes (bytes_are bytes p.0)).only_written (witness_at shape bytes)
    (ap (λ (s : Said). giving s (witness_at shape bytes)) p.1)).0
