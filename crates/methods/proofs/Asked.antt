-- From what a method of ours means to what a question with a sheet and a count answers.
use Rattle.std.proofs.Common.{◌≡◌, ℕ, ◌<◌, ◌≤◌, Bool, true, leb, List, length, take, Ok, Err, sym, ap, ◌∙◌, subst, inl, inr}
use Rattle.std.proofs.lemmas.List.{length-take-le}
use Rattle.std.proofs.lemmas.Bool.{le-leb, leb-true, lt-leb, cases_lt, cond-true, cond-false}
use Rattle.rows.specs.declared.fault.Fault.{Fault}
use Rattle.rows.specs.declared.fault.FaultKind.TheVariants.{TooManyFacts}
use Rattle.rows.specs.declared.numbers.Numbers.{Numbers}
use Rattle.rows.specs.Faults.{Said, fault_of, ◌and_then◌, check}
use Rattle.rows.proofs.Chains.{both, check_true, stops, goes, failed, never}
use Rattle.methods.specs.OpeningLaws.{opening_yes}
use Rattle.methods.specs.Openings.{opening, opening_asked, opened, Opened}
use Rattle.methods.specs.Questions.{Question, question, Meaning, asked, YesExactly}

module _ (count : ℕ) (sheet : List Numbers) (goal : Numbers) (certificate : List ℕ) where
  pub asked_many : (meaning : Meaning) → length sheet < count → Err (fault_of TooManyFacts 0 0 0) ≡ asked meaning count sheet goal certificate
  asked_many meaning l = sym (cond-false (leb count (length sheet)) _ _ (lt-leb _ _ l))

  pub asked_within : (meaning : Meaning) → count ≤ length sheet → asked meaning count sheet goal certificate ≡ meaning (question (take count sheet) goal certificate (length sheet))
  asked_within meaning l = cond-true (leb count (length sheet)) _ _ (le-leb _ _ l)

  -- the facts are no more than the sheet's rows
  room : count ≤ length sheet → leb (length (take count sheet)) (length sheet) ≡ true
  room l = le-leb _ _ (subst (λ (n : ℕ). n ≤ length sheet) (sym (length-take-le count sheet l)) l)

  -- a method of ours begins with the opening tests
  pub asked_opened : (rest : Meaning) → asked (opened rest) count sheet goal certificate ≡ (opening_asked count sheet goal and_then rest (question (take count sheet) goal certificate (length sheet)))
  unfolding opened
  asked_opened rest =
      let after = opening (take count sheet) goal in
      let then = rest (question (take count sheet) goal certificate (length sheet)) in
      elim (cases_lt (length sheet) count) [
        | inl l ↦ sym (asked_many (opened rest) l) ∙ stops _ then _ (stops _ after _ (failed _ _ (lt-leb _ _ l)))
        | inr l ↦
            asked_within (opened rest) l
            ∙ ap (λ (b : Bool). check b (fault_of TooManyFacts 0 0 0) and_then (after and_then then)) (room l)
            ∙ sym (ap (λ (b : Bool). (check b (fault_of TooManyFacts 0 0 0) and_then after) and_then then) (le-leb _ _ l))
      ]

  pub opening_stops : (rest : Meaning) (f : Fault) → Err f ≡ opening_asked count sheet goal → Err f ≡ asked (opened rest) count sheet goal certificate
  opening_stops rest f e = stops _ _ f e ∙ sym (asked_opened rest)

  pub opening_goes : (rest : Meaning) (r : Said) → Ok tt ≡ opening_asked count sheet goal → r ≡ rest (question (take count sheet) goal certificate (length sheet)) → r ≡ asked (opened rest) count sheet goal certificate
  opening_goes rest r e h = goes _ _ _ e h ∙ sym (asked_opened rest)

  pub exactly : (meaning : Meaning) (when : Question → Type 0) (said : Said) → said ≡ asked meaning count sheet goal certificate →
      ((q : Question) → meaning q ≡ Ok tt → when q) → ((q : Question) → when q → meaning q ≡ Ok tt) → YesExactly said when count sheet goal certificate
  exactly meaning when said e only if =
      record {
        only = λ y. elim (cases_lt (length sheet) count) [
          | inl l ↦ never (fault_of TooManyFacts 0 0 0) (asked_many meaning l ∙ sym e ∙ y)
          | inr l ↦ (l, only _ (sym (asked_within meaning l) ∙ sym e ∙ y))
        ];
        if = λ l w. e ∙ asked_within meaning l ∙ if _ w;
      }

-- what a yes of the opening tests says
pub opening_passed : (count : ℕ) (sheet : List Numbers) (goal : Numbers) → Ok tt ≡ opening_asked count sheet goal → (count ≤ length sheet) × Opened (take count sheet) goal
opening_passed count sheet goal e =
    let p = both (check (leb count (length sheet)) (fault_of TooManyFacts 0 0 0)) (opening (take count sheet) goal) (sym e) in
    (leb-true _ _ (check_true _ _ p.0), opening_yes _ _ p.1)

-- the first half of that, which a search can apply by itself
pub opening_within : (count : ℕ) (sheet : List Numbers) (goal : Numbers) → Ok tt ≡ opening_asked count sheet goal → count ≤ length sheet
opening_within count sheet goal e = (opening_passed count sheet goal e).0
