-- A question to a layer: what each way through its code answers, and when the answer is yes.
use Rattle.std.proofs.Common.{◌≡◌, ℕ, ◌<◌, ◌≤◌, cond, ◌&&◌, eqb, ltb, ◌⊎◌, List, length, get_or, take, drop, Ok, Err, Result, sym, refl, ap, ◌∙◌, inl, inr}
use Rattle.std.proofs.lemmas.List.{length-take-le}
use Rattle.std.proofs.lemmas.Bool.{lt-ltb, and_from, cond-true}
use Rattle.rows.specs.declared.fault.Fault.{Fault}
use Rattle.rows.specs.declared.fault.FaultKind.TheVariants.{LayerByte, NoRoomForFact}
use Rattle.rows.specs.declared.numbers.Numbers.{Numbers}
use Rattle.rows.specs.Faults.{Said, fault_of, check, moved}
use Rattle.rows.proofs.Chains.{never, checked}
use Rattle.methods.specs.declared.layer.FirstByte.{FirstByte}
use Rattle.methods.specs.declared.layer.FirstByte.TheVariants.{HandDown, Own}
use Rattle.methods.specs.Cuts.{HandedYes}
use Rattle.methods.specs.LayerLaws.{by_first-cases, moved_yes}
use Rattle.methods.specs.Layers.{first_byte_of, by_first, from, room_says, layered}
use Rattle.methods.specs.OpeningLaws.{opened_yes, yes_opened}
use Rattle.methods.specs.Openings.{most_facts, opening_asked, Begun}
use Rattle.methods.specs.Questions.{Question, question, Meaning, asked}
use Rattle.methods.proofs.Asked.{asked_within, opening_stops, opening_goes, opening_passed}

module _ (own : Meaning → Meaning) (below : Meaning) (count : ℕ) (sheet : List Numbers) (goal : Numbers) (certificate : List ℕ) where
  pub layer_stops : (f : Fault) → Err f ≡ opening_asked count sheet goal → Err f ≡ asked (layered own below) count sheet goal certificate
  unfolding layered
  layer_stops f e = opening_stops count sheet goal certificate _ f e

  module _ (e : Ok tt ≡ opening_asked count sheet goal) where
    -- after the opening tests
    then : (r : Said) (first : Result FirstByte Fault) → first ≡ first_byte_of certificate →
        r ≡ by_first first (moved 1 (below (question (take count sheet) goal (drop 1 certificate) (length sheet)))) (own below (question (take count sheet) goal certificate (length sheet))) →
        r ≡ asked (layered own below) count sheet goal certificate
    unfolding layered
    then r first b h =
        opening_goes count sheet goal certificate _ r e
        (h ∙ ap (λ (x : Result FirstByte Fault). by_first x (moved 1 (below (question (take count sheet) goal (drop 1 certificate) (length sheet)))) (own below (question (take count sheet) goal certificate (length sheet)))) b)

    pub layer_byte : (f : Fault) → Err f ≡ first_byte_of certificate → Err f ≡ asked (layered own below) count sheet goal certificate
    layer_byte f b = then (Err f) (Err f) b refl

    pub layer_handed : (r : Said) → Ok HandDown ≡ first_byte_of certificate → r ≡ moved 1 (asked below count sheet goal (drop 1 certificate)) → r ≡ asked (layered own below) count sheet goal certificate
    layer_handed r b h = then r (Ok HandDown) b (h ∙ ap (moved 1) (asked_within count sheet goal (drop 1 certificate) below (opening_passed count sheet goal e).0))

    pub layer_own : (r : Said) → Ok Own ≡ first_byte_of certificate → r ≡ own below (question (take count sheet) goal certificate (length sheet)) → r ≡ asked (layered own below) count sheet goal certificate
    layer_own r b h = then r (Ok Own) b h

-- the first byte
first_is : (certificate : List ℕ) (b : ℕ) → 0 < length certificate → get_or certificate 0 0 ≡ b →
    first_byte_of certificate ≡ cond (eqb b 0) (Ok HandDown) (cond (eqb b 1) (Ok Own) (Err (fault_of LayerByte 0 0 0)))
first_is certificate b l e = cond-true (ltb 0 (length certificate)) _ _ (lt-ltb _ _ l) ∙ ap (λ (x : ℕ). cond (eqb x 0) (Ok HandDown) (cond (eqb x 1) (Ok Own) (Err (fault_of LayerByte 0 0 0)))) e

-- a layer says yes by handing down or by its own part
pub layer_only : (own : Meaning → Meaning) (below : Meaning) (q : Question) → layered own below q ≡ Ok tt →
    Begun q × (HandedYes below q ⊎ ((0 < length q.certificate) × (get_or q.certificate 0 0 ≡ 1) × (own below q ≡ Ok tt)))
unfolding layered
layer_only own below q e =
    let y = opened_yes (λ q. by_first (first_byte_of q.certificate) (moved 1 (below (from 1 q))) (own below q)) q e in (
      y.0,
      by_first-cases q.certificate (moved 1 (below (from 1 q))) (own below q) (Ok tt) y.1
          (λ x. never _ x)
          (λ s t x. inl (record { first_byte = (s, t); below_yes = moved_yes 1 _ x }))
          (λ s t x. inr (s, t, x))
          (λ x. never _ x),
    )

pub handed_if : (own : Meaning → Meaning) (below : Meaning) (q : Question) → Begun q → HandedYes below q → layered own below q ≡ Ok tt
unfolding layered
handed_if own below q b h =
    yes_opened (λ q. by_first (first_byte_of q.certificate) (moved 1 (below (from 1 q))) (own below q)) q b
    (ap (λ (x : Result FirstByte Fault). by_first x (moved 1 (below (from 1 q))) (own below q)) (first_is q.certificate 0 h.first_byte.0 h.first_byte.1)
    ∙ ap (moved 1) h.below_yes)

pub own_if : (own : Meaning → Meaning) (below : Meaning) (q : Question) → Begun q → 0 < length q.certificate → get_or q.certificate 0 0 ≡ 1 → own below q ≡ Ok tt → layered own below q ≡ Ok tt
unfolding layered
own_if own below q b s t y =
    yes_opened (λ q. by_first (first_byte_of q.certificate) (moved 1 (below (from 1 q))) (own below q)) q b
    (ap (λ (x : Result FirstByte Fault). by_first x (moved 1 (below (from 1 q))) (own below q)) (first_is q.certificate 1 s t) ∙ y)

-- room for one more fact
pub yes_room : (q : Question) → length q.facts < most_facts → length q.facts < q.rows → Ok tt ≡ room_says q
yes_room q l h = checked _ _ (and_from (ltb (length q.facts) most_facts) (ltb (length q.facts) q.rows) (lt-ltb _ _ l) (lt-ltb _ _ h))

-- the test for room, by the count of facts
pub room_count : (count : ℕ) (sheet : List Numbers) (goal : Numbers) (certificate : List ℕ) → count ≤ length sheet →
    check (ltb count most_facts && ltb count (length sheet)) (fault_of NoRoomForFact 0 0 0) ≡ room_says (question (take count sheet) goal certificate (length sheet))
room_count count sheet goal certificate l = ap (λ (n : ℕ). check (ltb n most_facts && ltb n (length sheet)) (fault_of NoRoomForFact 0 0 0)) (sym (length-take-le count sheet l))
