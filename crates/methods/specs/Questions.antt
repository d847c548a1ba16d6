-- What a proof method is asked and answers, and the two laws that every method shows.
use Rattle.std.specs.Prelude.{◌≡◌, ℕ, ◌≤◌, cond, List, length, take, ℤ, Ok, Err, nat_le}
use Rattle.rows.specs.declared.fault.Fault.{Fault}
use Rattle.rows.specs.declared.fault.FaultKind.TheVariants.{TooManyFacts}
use Rattle.rows.specs.declared.numbers.Numbers.{Numbers}
use Rattle.rows.specs.Faults.{Said, fault_of}
use Rattle.rows.specs.Shapes.{Meets, MeetsAll}

-- a question: the facts, the goal, the certificate's bytes, and how many rows the fact sheet has
pub record Question : Type 0 where
  pub facts : List Numbers
  pub goal : Numbers
  pub certificate : List ℕ
  pub rows : ℕ

abbrev pub question : List Numbers → Numbers → List ℕ → ℕ → Question
question facts goal certificate rows = record { facts = facts; goal = goal; certificate = certificate; rows = rows }

-- what a method means: its answer to every question
abbrev pub Meaning : Type 0
Meaning = Question → Said

-- the laws of a method
pub record Lawful (meaning : Meaning) : Type 0 where
  -- after a yes, every point of whole numbers that meets all facts meets the goal
  pub sound : (q : Question) → meaning q ≡ Ok tt → (point : List ℤ) → MeetsAll point q.facts → Meets point q.goal
  -- a fault's place lies within the certificate or at its end
  pub placed : (q : Question) (f : Fault) → meaning q ≡ Err f → f.place ≤ length q.certificate

-- the answer to a question whose facts are the first `count` rows of a sheet
abbrev pub asked : Meaning → ℕ → List Numbers → Numbers → List ℕ → Said
asked meaning count sheet goal certificate =
    cond (nat_le count (length sheet))
    (meaning (question (take count sheet) goal certificate (length sheet)))
    (Err (fault_of TooManyFacts 0 0 0))

-- a yes exactly when: no more facts are counted than the sheet has rows, and the question is one that the method
-- says yes to
pub record YesExactly (said : Said) (when : Question → Type 0) (count : ℕ) (sheet : List Numbers) (goal : Numbers) (certificate : List ℕ) : Type 0 where
  pub only : said ≡ Ok tt → (count ≤ length sheet) × when (question (take count sheet) goal certificate (length sheet))
  pub if : count ≤ length sheet → when (question (take count sheet) goal certificate (length sheet)) → said ≡ Ok tt
