-- What the tests of the pieces of a witness tell of them.
use Rattle.std.proofs.Common.{◌≡◌, ℕ, ◌+◌, ◌<◌, ◌≤◌, Bool, true, ◌&&◌, eqb, ltb, leb, List, length, Ok}
use Rattle.std.proofs.lemmas.Bool.{ltb-true, leb-true, eqb-true, and_parts}
use Rattle.rows.specs.declared.fault.Fault.{Fault}
use Rattle.rows.specs.declared.fault.FaultKind.TheVariants.{WitnessVersion, WitnessLength, WitnessCount}
use Rattle.rows.specs.Faults.{Said, ◌and_then◌, check}
use Rattle.rows.proofs.Chains.{both, check_true}
use Rattle.records.specs.declared.shape.Shape.{Shape}
use Rattle.records.specs.Limits.{most_places, most_inners, most_conditions, most_entries}
use Rattle.formats.specs.Pieces.{byte_at, fault_at, rest_from, version_says}
use Rattle.records.specs.Records.{TransitionData}
use Rattle.formats.specs.Walks.{PieceData}
use Rattle.formats.specs.Witnesses.{kind_from, count_from, plan_count_from, entries, place_length, place_says, inner_says, kind_says, named_in, numbers_in, witness_at, pieces_of, pieces_say, references_say, content_says, witness_says}

-- a yes of a chain is one of its first test, and of the rest
pub head : (t : Bool) (f : Fault) (d : Said) → (check t f and_then d) ≡ Ok tt → (t ≡ true) × (d ≡ Ok tt)
head t f d e = let r = both (check t f) d e in (check_true t f r.0, r.1)

module _ (shape : Shape) (places inners : List ℕ) (offset : ℕ) (rest : List ℕ) (e : place_says shape places inners offset rest ≡ Ok tt) where
  pub place_room : length places < most_places
  unfolding place_says
  place_room = ltb-true (length places) most_places (head (ltb (length places) most_places) (fault_at WitnessCount (rest_from offset + kind_from)) _ e).0

  -- how many entries there are, and how long the piece is
  pub place_plan : (1 ≤ entries shape rest) × (entries shape rest ≤ most_entries) × (length rest ≡ place_length shape rest)
  unfolding place_says
  place_plan =
      let a = (head (ltb (length places) most_places) (fault_at WitnessCount (rest_from offset + kind_from)) _ e).1 in
      let b = (head (leb (count_from + 1) (length rest)) (fault_at WitnessLength offset) _ a).1 in
      let c = (head (leb 0 (byte_at rest count_from) && leb (byte_at rest count_from) most_conditions) (fault_at WitnessCount (rest_from offset + count_from)) _ b).1 in
      let d = (head (leb (plan_count_from shape rest + 1) (length rest)) (fault_at WitnessLength offset) _ c).1 in
      let k = head (leb 1 (entries shape rest) && leb (entries shape rest) most_entries) (fault_at WitnessCount (rest_from offset + plan_count_from shape rest)) _ d in
      let l = (head (eqb (length rest) (place_length shape rest)) (fault_at WitnessLength offset) _ k.1).0 in
      let p = and_parts (leb 1 (entries shape rest)) (leb (entries shape rest) most_entries) k.0 in (
        leb-true 1 (entries shape rest) p.0,
        leb-true (entries shape rest) most_entries p.1,
        eqb-true (length rest) (place_length shape rest) l,
      )

module _ (shape : Shape) (inners : List ℕ) (offset : ℕ) (rest : List ℕ) (e : inner_says shape inners offset rest ≡ Ok tt) where
  pub inner_room : length inners < most_inners
  unfolding inner_says
  inner_room = ltb-true (length inners) most_inners (head (ltb (length inners) most_inners) (fault_at WitnessCount (rest_from offset + kind_from)) _ e).0

pub kind_reaches : (p : PieceData) → kind_says p ≡ Ok tt → 1 ≤ length p.rest
unfolding kind_says
kind_reaches p e = leb-true 1 (length p.rest) (head (leb (kind_from + 1) (length p.rest)) (fault_at WitnessLength p.offset) _ e).0

-- a witness that passes has pieces that pass
pub content_pieces : (transitions : List TransitionData) (shape : Shape) (bytes : List ℕ) → witness_says transitions shape bytes ≡ Ok tt → pieces_say shape bytes ≡ Ok tt
unfolding content_says
content_pieces transitions shape bytes e =
    (both (pieces_say shape bytes) (references_say shape (named_in transitions (numbers_in (witness_at shape bytes))) (pieces_of bytes)) (both (version_says WitnessVersion bytes) (content_says transitions shape bytes) e).1).0
