-- Tests one after another: where a chain of them stops, where it goes on, and what a yes of the whole says of each.
use Rattle.std.proofs.Common.{◌≡◌, ℕ, Bool, true, false, Some, None, Ok, Err, Option, sym, refl, ap, ◌∙◌, arith}
use Rattle.rows.specs.declared.fault.Fault.{Fault}
use Rattle.rows.specs.declared.fault.FaultKind.{FaultKind}
use Rattle.rows.specs.Faults.{Said, fault_of, ◌and_then◌, check, unless_found}

-- the first test's fault is the chain's
pub stops : (first rest : Said) (f : Fault) → Err f ≡ first → Err f ≡ (first and_then rest)
stops first rest f e = ap (λ (x : Said). x and_then rest) e

-- after a first test that is passed the chain is the rest
pub goes : (first rest r : Said) → Ok tt ≡ first → r ≡ rest → r ≡ (first and_then rest)
goes first rest r e h = h ∙ ap (λ (x : Said). x and_then rest) e

pub checked : (test : Bool) (f : Fault) → test ≡ true → Ok tt ≡ check test f
checked test f e = sym (ap (λ (b : Bool). check b f) e)

pub failed : (test : Bool) (f : Fault) → test ≡ false → Err f ≡ check test f
failed test f e = sym (ap (λ (b : Bool). check b f) e)

pub never : {G : Type 0} (f : Fault) → ◌≡◌ {A = Said} (Err f) (Ok tt) → G
never f e = let z : ◌≡◌ {A = ℕ} 0 1 = cc in absurd (omega arith)

-- a yes of the chain is a yes of each part
pub both : (first rest : Said) → (first and_then rest) ≡ Ok tt → (first ≡ Ok tt) × (rest ≡ Ok tt)
both (Ok tt) rest e = (refl, e)
both (Err f) rest e = never f e

pub check_true : (test : Bool) (f : Fault) → check test f ≡ Ok tt → test ≡ true
check_true true f e = refl
check_true false f e = never f e

pub found_none : (kind : FaultKind) (o : Option ℕ) → unless_found kind o ≡ Ok tt → o ≡ None
found_none kind None e = refl
found_none kind (Some i) e = never _ e

-- a fault of the chain is one of its parts'
pub either : {G : Type 0} (first rest : Said) (f : Fault) → (first and_then rest) ≡ Err f → (first ≡ Err f → G) → (rest ≡ Err f → G) → G
either (Ok tt) rest f e g h = h e
either (Err x) rest f e g h = g e

-- where the fault of a test stands that names no place
pub check_place : (test : Bool) (k : FaultKind) (i : ℕ) (f : Fault) → check test (fault_of k 0 0 i) ≡ Err f → f.place ≡ 0
check_place true k i f e = never f (sym e)
check_place false k i f e = let s : fault_of k 0 0 i ≡ f = cc in sym (ap (λ (x : Fault). x.place) s)

pub found_place : (k : FaultKind) (o : Option ℕ) (f : Fault) → unless_found k o ≡ Err f → f.place ≡ 0
found_place k None f e = never f (sym e)
found_place k (Some i) f e = let s : fault_of k 0 0 i ≡ f = cc in sym (ap (λ (x : Fault). x.place) s)

-- a fault of a chain that begins with such a test
pub check_first : {G : Type 0} (test : Bool) (k : FaultKind) (i : ℕ) (rest : Said) (f : Fault) → (check test (fault_of k 0 0 i) and_then rest) ≡ Err f → (f.place ≡ 0 → G) → (test ≡ true → rest ≡ Err f → G) → G
check_first true k i rest f e z r = r refl e
check_first false k i rest f e z r = z (check_place false k i f e)
