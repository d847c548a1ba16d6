-- A layer over a method that never says yes never says yes.
use Rattle.std.proofs.Common.{◌≡◌, ℕ, List, length, take, Ok, sym, ◌∙◌, inl, inr}
use Rattle.std.proofs.lemmas.Bool.{cases_lt}
use Rattle.rows.specs.declared.fault.FaultKind.TheVariants.{TooManyFacts}
use Rattle.rows.specs.declared.numbers.Numbers.{Numbers}
use Rattle.rows.specs.Faults.{Said, fault_of}
use Rattle.rows.proofs.Chains.{never}
use Rattle.methods.specs.Questions.{Question, question, Meaning, asked}
use Rattle.methods.specs.Splits.{split_says}
use Rattle.methods.proofs.Asked.{asked_many, asked_within}
use Rattle.methods.proofs.SplitsExactly.{split_only}
use Rattle.extension.specs.Nevers.{never_says}
use Rattle.extension.specs.WeakenLaws.{weaken_only}
use Rattle.extension.specs.Weakens.{weaken_says}

abbrev Refuses : Meaning → Type 0
Refuses meaning = (q : Question) → meaning q ≡ Ok tt → ⊥

split_refuses : (below : Meaning) → Refuses below → Refuses (split_says below)
split_refuses below r q e = elim (split_only below q e).by [ inl h ↦ r _ h.below_yes | inr o ↦ r _ o.first_yes ]

weaken_refuses : (below : Meaning) → Refuses below → Refuses (weaken_says below)
weaken_refuses below r q e = elim (weaken_only below q e).by [ inl h ↦ r _ h.below_yes | inr o ↦ r _ o.below_yes ]

never_refuses : Refuses never_says
never_refuses q e = never _ e

pub stack_refuses : (count : ℕ) (sheet : List Numbers) (goal : Numbers) (certificate : List ℕ) (said : Said) → said ≡ asked (weaken_says (split_says never_says)) count sheet goal certificate → said ≡ Ok tt → ⊥
stack_refuses count sheet goal certificate said e y =
    elim (cases_lt (length sheet) count) [
      | inl l ↦ never (fault_of TooManyFacts 0 0 0) (asked_many count sheet goal certificate (weaken_says (split_says never_says)) l ∙ sym e ∙ y)
      | inr l ↦ weaken_refuses (split_says never_says) (split_refuses never_says never_refuses) (question (take count sheet) goal certificate (length sheet)) (sym (asked_within count sheet goal certificate (weaken_says (split_says never_says)) l) ∙ sym e ∙ y)
    ]
