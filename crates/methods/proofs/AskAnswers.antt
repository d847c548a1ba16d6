-- The laws of a method, put to its answer about the first rows of a sheet.
use Rattle.std.proofs.Common.{◌≡◌, ℕ, List, length, take, Err, sym, ap, ◌∙◌, inl, inr, arith}
use Rattle.std.proofs.lemmas.Bool.{cases_lt}
use Rattle.rows.specs.declared.fault.Fault.{Fault}
use Rattle.rows.specs.declared.fault.FaultKind.TheVariants.{TooManyFacts}
use Rattle.rows.specs.declared.numbers.Numbers.{Numbers}
use Rattle.rows.specs.Faults.{Said, fault_of}
use Rattle.rows.proofs.Chains.{never}
use Rattle.methods.specs.Asks.{SoundAnswer, PlacedAnswer}
use Rattle.methods.specs.Questions.{Meaning, Lawful, question, asked}
use Rattle.methods.proofs.Asked.{asked_many, asked_within}

module _ (meaning : Meaning) (lawful : Lawful meaning) (count : ℕ) (sheet : List Numbers) (goal : Numbers) (certificate : List ℕ) (said : Said) (e : said ≡ asked meaning count sheet goal certificate) where
  pub sound_answer : SoundAnswer said (take count sheet) goal
  sound_answer y point m =
      elim (cases_lt (length sheet) count) [
        | inl l ↦ never (fault_of TooManyFacts 0 0 0) (asked_many count sheet goal certificate meaning l ∙ sym e ∙ y)
        | inr l ↦ lawful.sound (question (take count sheet) goal certificate (length sheet)) (sym (asked_within count sheet goal certificate meaning l) ∙ sym e ∙ y) point m
      ]

  pub placed_answer : PlacedAnswer said certificate
  placed_answer f y =
      elim (cases_lt (length sheet) count) [
        | inl l ↦
            let x : ◌≡◌ {A = Said} (Err (fault_of TooManyFacts 0 0 0)) (Err f) = asked_many count sheet goal certificate meaning l ∙ sym e ∙ y in
            let s : fault_of TooManyFacts 0 0 0 ≡ f = cc in
            let p : 0 ≡ f.place = ap (λ (x : Fault). x.place) s in
            omega arith
        | inr l ↦ lawful.placed (question (take count sheet) goal certificate (length sheet)) f (sym (asked_within count sheet goal certificate meaning l) ∙ sym e ∙ y)
      ]
