-- A method that never says yes, and its laws.
use Rattle.std.specs.Prelude.{◌≡◌, Err}
use Rattle.std.proofs.Common.{sym, ap, arith}
use Rattle.rows.specs.declared.fault.Fault.{Fault}
use Rattle.rows.specs.declared.fault.FaultKind.TheVariants.{BoundNotShown}
use Rattle.rows.specs.Faults.{Said, fault_of}
use Rattle.rows.specs.Limits.{columns}
use Rattle.rows.proofs.Chains.{never}
use Rattle.methods.specs.Questions.{Meaning, Lawful}

-- every question is refused with one fault
abbrev pub never_says : Meaning
never_says q = Err (fault_of BoundNotShown 0 0 columns)

refused_place : (f : Fault) → ◌≡◌ {A = Said} (Err (fault_of BoundNotShown 0 0 columns)) (Err f) → f.place ≡ 0
refused_place f e = let s : fault_of BoundNotShown 0 0 columns ≡ f = cc in sym (ap (λ (x : Fault). x.place) s)

pub never_lawful : Lawful never_says
never_lawful =
    record {
      sound = λ q e. never _ e;
      placed = λ q f e. let p = refused_place f e in omega arith;
    }
