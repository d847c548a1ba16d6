-- A question to the layer that lowers the goal's bound: what each way through its code answers, and when it is yes.
use Rattle.std.proofs.Common.{◌≡◌, ℕ, ◌<◌, ◌≤◌, cond, eqb, ltb, List, length, get_or, take, drop, Ok, Err, Result, sym, refl, ap, ◌∙◌, inl, inr}
use Rattle.std.proofs.lemmas.Bool.{le-leb, lt-ltb, and_from, cond-true}
use Rattle.rows.specs.declared.fault.Fault.{Fault}
use Rattle.rows.specs.declared.fault.FaultKind.TheVariants.{LayerByte}
use Rattle.rows.specs.declared.numbers.Numbers.{Numbers}
use Rattle.rows.specs.Faults.{Said, fault_of, moved}
use Rattle.rows.proofs.Chains.{stops, goes, checked}
use Rattle.methods.specs.declared.layer.FirstByte.{FirstByte}
use Rattle.methods.specs.declared.layer.FirstByte.TheVariants.{HandDown, Own}
use Rattle.methods.specs.Layers.{first_byte_of, by_first, from}
use Rattle.methods.specs.OpeningLaws.{yes_row}
use Rattle.methods.specs.Openings.{row_says}
use Rattle.methods.specs.Questions.{Question, question, Meaning, asked, YesExactly}
use Rattle.methods.proofs.Asked.{asked_within, exactly}
use Rattle.extension.specs.WeakenLaws.{weaken_only}
use Rattle.extension.specs.Weakens.{lower_from, slack_tests, weaken_own, weaken_says, WeakenYes}
use Rattle.extension.proofs.OrderTests.{le_test}

module _ (below : Meaning) (count : ℕ) (sheet : List Numbers) (goal : Numbers) (certificate : List ℕ) (l : count ≤ length sheet) where
  ask : Question
  ask = question (take count sheet) goal certificate (length sheet)

  -- the answer of the chain of tests is the answer to the question
  whole : (r : Said) → r ≡ weaken_says below (question (take count sheet) goal certificate (length sheet)) → r ≡ asked (weaken_says below) count sheet goal certificate
  whole r e = e ∙ sym (asked_within count sheet goal certificate (weaken_says below) l)

  pub weaken_no_row : (f : Fault) → Err f ≡ row_says goal → Err f ≡ asked (weaken_says below) count sheet goal certificate
  unfolding weaken_says
  weaken_no_row f e = whole (Err f) (stops _ _ f e)

  -- after the goal's test
  then : (r : Said) → Ok tt ≡ row_says goal → (x : Result FirstByte Fault) → x ≡ first_byte_of certificate →
      r ≡ by_first x (moved 1 (below (question (take count sheet) goal (drop 1 certificate) (length sheet)))) (weaken_own below (question (take count sheet) goal certificate (length sheet))) →
      r ≡ asked (weaken_says below) count sheet goal certificate
  unfolding weaken_says
  then r e x b h =
      whole r (goes _ _ _ e (h ∙ ap (λ (y : Result FirstByte Fault). by_first y (moved 1 (below (question (take count sheet) goal (drop 1 certificate) (length sheet)))) (weaken_own below (question (take count sheet) goal certificate (length sheet)))) b))

  pub weaken_byte : (f : Fault) → Ok tt ≡ row_says goal → Err f ≡ first_byte_of certificate → Err f ≡ asked (weaken_says below) count sheet goal certificate
  weaken_byte f e b = then (Err f) e (Err f) b refl

  pub weaken_handed : (r : Said) → Ok tt ≡ row_says goal → Ok HandDown ≡ first_byte_of certificate → r ≡ moved 1 (asked below count sheet goal (drop 1 certificate)) → r ≡ asked (weaken_says below) count sheet goal certificate
  weaken_handed r e b h = then r e (Ok HandDown) b (h ∙ ap (moved 1) (asked_within count sheet goal (drop 1 certificate) below l))

  pub weaken_own_lem : (r : Said) (goal' : Numbers) → Ok tt ≡ row_says goal → Ok Own ≡ first_byte_of certificate → goal' ≡ goal →
      r ≡ weaken_own below (question (take count sheet) goal' certificate (length sheet)) → r ≡ asked (weaken_says below) count sheet goal certificate
  weaken_own_lem r goal' e b d h = then r e (Ok Own) b (h ∙ ap (λ (n : Numbers). weaken_own below (question (take count sheet) n certificate (length sheet))) d)

first_is : (certificate : List ℕ) (b : ℕ) → 0 < length certificate → get_or certificate 0 0 ≡ b →
    first_byte_of certificate ≡ cond (eqb b 0) (Ok HandDown) (cond (eqb b 1) (Ok Own) (Err (fault_of LayerByte 0 0 0)))
first_is certificate b l e = cond-true (ltb 0 (length certificate)) _ _ (lt-ltb _ _ l) ∙ ap (λ (x : ℕ). cond (eqb x 0) (Ok HandDown) (cond (eqb x 1) (Ok Own) (Err (fault_of LayerByte 0 0 0)))) e

pub weaken_if : (below : Meaning) (q : Question) → WeakenYes below q → weaken_says below q ≡ Ok tt
unfolding weaken_says weaken_own slack_tests
weaken_if below q y =
    sym (goes _ _ _ (yes_row q.goal y.goal_is_row)
    (elim y.by [
      | inl h ↦ sym (ap (λ (x : Result FirstByte Fault). by_first x (moved 1 (below (from 1 q))) (weaken_own below q)) (first_is q.certificate 0 h.first_byte.0 h.first_byte.1) ∙ ap (moved 1) h.below_yes)
      | inr o ↦ sym (ap (λ (x : Result FirstByte Fault). by_first x (moved 1 (below (from 1 q))) (weaken_own below q)) (first_is q.certificate 1 o.first_byte.0 o.first_byte.1)
          ∙ sym (goes _ _ _ (goes _ _ _ (checked _ _ (le-leb _ _ o.long)) (checked _ _ (and_from _ _ (le_test _ _ o.slack_least) (le_test _ _ o.slack_most))))
          (sym (ap (moved lower_from) o.below_yes))))
    ]))

pub weaken_exactly : (below : Meaning) (count : ℕ) (sheet : List Numbers) (goal : Numbers) (certificate : List ℕ) (said : Said) → said ≡ asked (weaken_says below) count sheet goal certificate → YesExactly said (WeakenYes below) count sheet goal certificate
weaken_exactly below count sheet goal certificate said e = exactly count sheet goal certificate (weaken_says below) (WeakenYes below) said e (weaken_only below) (weaken_if below)
