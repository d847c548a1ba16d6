-- The model of a case: what it holds, told by its calls alone. The memory of a case plays no part in it but for its size.
use Rattle.std.specs.Prelude.{ℕ, Bool, true, false, cond, ◌&&◌, List, ℤ, None, Option, ◌==◌}
use Rattle.records.specs.Records.{TableData, WitnessData}
use Rattle.semantics.specs.declared.obligation.Obligation.{Obligation}
use Rattle.semantics.specs.declared.obligation.Obligation.TheVariants.{Consecution, Restriction, Guard, Exit}

-- how a case is made: for how many transitions, listed places and inner transitions its memory has room
pub record Making : Type 0 where
  pub transitions : ℕ
  pub places : ℕ
  pub inners : ℕ

-- the present place and state
pub record Present : Type 0 where
  pub place : ℕ
  pub state : List ℤ

pub record Model : Type 0 where
  pub making : Making
  pub table : Option TableData
  -- the witness, with the rows that were added
  pub witness : Option WitnessData
  pub present : Option Present
  -- the steps made since the first state
  pub steps : ℕ
  -- the obligations that were shown, each by what it is about
  pub shown : Obligation → Bool

-- whether two obligations are about the same
abbrev pub same : Obligation → Obligation → Bool
same (Consecution n r) (Consecution m s) = n == m && r == s
same (Consecution n r) (Restriction m s) = false
same (Consecution n r) (Guard m e s) = false
same (Consecution n r) (Exit m) = false
same (Restriction n r) (Consecution m s) = false
same (Restriction n r) (Restriction m s) = n == m && r == s
same (Restriction n r) (Guard m e s) = false
same (Restriction n r) (Exit m) = false
same (Guard p d r) (Consecution m s) = false
same (Guard p d r) (Restriction m s) = false
same (Guard p d r) (Guard m e s) = p == m && (d == e && r == s)
same (Guard p d r) (Exit m) = false
same (Exit n) (Consecution m s) = false
same (Exit n) (Restriction m s) = false
same (Exit n) (Guard m e s) = false
same (Exit n) (Exit m) = n == m

-- nothing is shown, and one obligation more
abbrev pub none_shown : Obligation → Bool
none_shown o = false

abbrev pub with_shown : Obligation → (Obligation → Bool) → Obligation → Bool
with_shown o shown other = cond (same o other) true (shown other)

-- a case that was just made
abbrev pub empty : Making → Model
empty making = record { making = making; table = None; witness = None; present = None; steps = 0; shown = none_shown }
