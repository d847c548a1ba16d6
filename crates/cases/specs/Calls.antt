-- The nine calls on a case, with all their arguments.
use Rattle.std.specs.Prelude.{ℕ, List, ℤ, Result}
use Rattle.rows.specs.declared.fault.Fault.{Fault}
use Rattle.rows.specs.Faults.{Said}
use Rattle.methods.specs.Questions.{Meaning, Lawful}
use Rattle.semantics.specs.declared.obligation.Obligation.{Obligation}

-- prove carries the meaning of the method that it names, with its laws, and so stands for any method, ours or another's,
-- single or stacked; it also carries how many rows the fact sheet has. unroll carries how many numbers the table that it
-- writes has room for.
pub data Call : Type 0 where
  Open : (bytes : List ℕ) → Call
  Admit : (bytes : List ℕ) → Call
  Begin : (values : List ℤ) → Call
  Advance : (transition : ℕ) (choices : List ℤ) → Call
  Strengthen : (place : ℕ) (numbers : List ℤ) → Call
  Restrict : (transition : ℕ) (numbers : List ℤ) → Call
  Prove : (meaning : Meaning) (lawful : Lawful meaning) (obligation : Obligation) (certificate : List ℕ) (rows : ℕ) → Call
  Verdict : Call
  Unroll : (n room : ℕ) → Call

-- what unroll answers: how many steps it made, and the states that it wrote, the present one first
pub record Unrolled : Type 0 where
  pub count : ℕ
  pub states : List (List ℤ)

-- what a call answers: nothing or a fault, or what was unrolled or a fault
pub data Reply : Type 0 where
  told : Said → Reply
  ran : Result Unrolled Fault → Reply
