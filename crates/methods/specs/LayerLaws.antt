-- Proofs, and nothing to believe: the laws of a layer follow from those of the method below and from what its own part
-- shows. They stand here since the layers' contracts hand them on, and a contract may name no file of proofs/.
use Rattle.std.specs.Prelude.{◌≡◌, ℕ, ◌+◌, ◌<◌, ◌≤◌, Bool, true, false, cond, List, length, drop, ℤ, Ok, Err, ◌==◌, nat_lt, slice_index, refl}
use Rattle.std.proofs.Common.{sym, ap, arith}
use Rattle.std.proofs.lemmas.List.{length-drop}
use Rattle.std.proofs.lemmas.Bool.{and_parts, ltb-true, eqb-true}
use Rattle.rows.specs.declared.fault.Fault.{Fault}
use Rattle.rows.specs.declared.fault.FaultKind.{FaultKind}
use Rattle.rows.specs.declared.fault.FaultKind.TheVariants.{CertificateLength, LayerByte}
use Rattle.rows.specs.declared.numbers.Numbers.{Numbers}
use Rattle.rows.specs.Faults.{Said, fault_of, raised, moved}
use Rattle.rows.specs.Shapes.{Meets, MeetsAll}
use Rattle.rows.proofs.Chains.{never, check_true}
use Rattle.methods.specs.declared.layer.FirstByte.TheVariants.{HandDown, Own}
use Rattle.methods.specs.Layers.{first_byte_of, by_first, from, room_says, layered}
use Rattle.methods.specs.OpeningLaws.{opened_yes, opened_place}
use Rattle.methods.specs.Openings.{most_facts, Begun}
use Rattle.methods.specs.Questions.{Question, Meaning, Lawful}

-- a moved yes is a yes
pub moved_yes : (offset : ℕ) (said : Said) → moved offset said ≡ Ok tt → said ≡ Ok tt
moved_yes offset (Ok tt) e = refl
moved_yes offset (Err f) e = never _ e

-- a moved fault stands within the whole certificate
pub moved_place : (offset n : ℕ) (said : Said) (f : Fault) → moved offset said ≡ Err f → ((g : Fault) → said ≡ Err g → g.place ≤ n) → f.place ≤ n + offset
moved_place offset n (Ok tt) f e h = never f (sym e)
moved_place offset n (Err g) f e h =
    let s : raised offset g ≡ f = cc in
    let p : g.place + offset ≡ f.place = ap (λ (x : Fault). x.place) s in
    let q = h g refl in
    omega arith

-- the fault of a method below that is asked of the certificate from an offset on
pub lower_place : (below : Meaning) → Lawful below → (q : Question) (facts : List Numbers) (offset : ℕ) (f : Fault) → offset ≤ length q.certificate →
    moved offset (below (record { facts = facts; goal = q.goal; certificate = drop offset q.certificate; rows = q.rows })) ≡ Err f → f.place ≤ length q.certificate
lower_place below l q facts offset f h e =
    let p = moved_place offset (length (drop offset q.certificate)) _ f e (λ g x. l.placed (record { facts = facts; goal = q.goal; certificate = drop offset q.certificate; rows = q.rows }) g x) in
    omega (arith, length-drop offset q.certificate)

-- by the first byte
tests : {G : Type 0} (some zeroed one : Bool) (x y z : Said) →
    by_first (cond some (cond zeroed (Ok HandDown) (cond one (Ok Own) (Err (fault_of LayerByte 0 0 0)))) (Err (fault_of CertificateLength 0 0 0))) x y ≡ z →
    (◌≡◌ {A = Said} (Err (fault_of CertificateLength 0 0 0)) z → G) → (some ≡ true → zeroed ≡ true → x ≡ z → G) → (some ≡ true → one ≡ true → y ≡ z → G) → (◌≡◌ {A = Said} (Err (fault_of LayerByte 0 0 0)) z → G) → G
tests true true one x y z e a b c d = b refl refl e
tests true false true x y z e a b c d = c refl refl e
tests true false false x y z e a b c d = d e
tests false zeroed one x y z e a b c d = a e

pub by_first-cases : {G : Type 0} (certificate : List ℕ) (x y z : Said) → by_first (first_byte_of certificate) x y ≡ z →
    (◌≡◌ {A = Said} (Err (fault_of CertificateLength 0 0 0)) z → G) →
    (0 < length certificate → slice_index certificate 0 ≡ 0 → x ≡ z → G) →
    (0 < length certificate → slice_index certificate 0 ≡ 1 → y ≡ z → G) →
    (◌≡◌ {A = Said} (Err (fault_of LayerByte 0 0 0)) z → G) → G
by_first-cases certificate x y z e a b c d =
    tests (nat_lt 0 (length certificate)) (slice_index certificate 0 == 0) (slice_index certificate 0 == 1) x y z e a
    (λ s t. b (ltb-true 0 (length certificate) s) (eqb-true _ _ t))
    (λ s t. c (ltb-true 0 (length certificate) s) (eqb-true _ _ t)) d

-- a yes of the test for room
pub room_yes : (q : Question) → room_says q ≡ Ok tt → (length q.facts < most_facts) × (length q.facts < q.rows)
room_yes q e =
    let p = and_parts (nat_lt (length q.facts) most_facts) (nat_lt (length q.facts) q.rows) (check_true _ _ e) in
    (ltb-true _ _ p.0, ltb-true _ _ p.1)

place_of : (k : FaultKind) (f : Fault) → ◌≡◌ {A = Said} (Err (fault_of k 0 0 0)) (Err f) → f.place ≡ 0
place_of k f e = let s : fault_of k 0 0 0 ≡ f = cc in sym (ap (λ (x : Fault). x.place) s)

-- what a layer's own part shows
pub record OwnLaws (own : Meaning) : Type 0 where
  pub sound : (q : Question) → Begun q → own q ≡ Ok tt → (point : List ℤ) → MeetsAll point q.facts → Meets point q.goal
  pub placed : (q : Question) (f : Fault) → 0 < length q.certificate → own q ≡ Err f → f.place ≤ length q.certificate

pub layer_lawful : (own : Meaning → Meaning) (below : Meaning) → Lawful below → OwnLaws (own below) → Lawful (layered own below)
unfolding layered
layer_lawful own below l o =
    record {
      sound = λ q e point m.
          let y = opened_yes (λ q. by_first (first_byte_of q.certificate) (moved 1 (below (from 1 q))) (own below q)) q e in
          by_first-cases q.certificate (moved 1 (below (from 1 q))) (own below q) (Ok tt) y.1
          (λ x. never _ x)
          (λ s t x. l.sound (from 1 q) (moved_yes 1 _ x) point m)
          (λ s t x. o.sound q y.0 x point m)
          (λ x. never _ x);
      placed = λ q f e.
          opened_place (λ q. by_first (first_byte_of q.certificate) (moved 1 (below (from 1 q))) (own below q)) q f e (λ z. omega arith)
          (λ h. by_first-cases q.certificate (moved 1 (below (from 1 q))) (own below q) (Err f) h
          (λ x. let p = place_of CertificateLength f x in omega arith)
          (λ s t x. lower_place below l q q.facts 1 f s x)
          (λ s t x. o.placed q f s x)
          (λ x. let p = place_of LayerByte f x in omega arith));
    }
