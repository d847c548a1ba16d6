-- What the reader of a witness hands out, by cases: no byte is left, a fault, or a piece.
use Rattle.std.proofs.Common.{◌≡◌, ℕ, ◌+◌, ◌-◌, ◌^◌, ◌<◌, ◌≤◌, ltb, length, drop, Some, None, Ok, Err, sym, refl, ap, ◌∙◌, subst, inl, inr, arith, length-take}
use Rattle.std.proofs.lemmas.Bool.{lt-ltb, le-ltb, cond-true, cond-false, cases_lt, cond_both}
use Rattle.rows.specs.declared.fault.Fault.{Fault}
use Rattle.rows.specs.declared.fault.FaultKind.TheVariants.{WitnessLength}
use Rattle.rows.specs.Bytes.{word_at}
use Rattle.rows.specs.Faults.{Said}
use Rattle.rows.proofs.Chains.{both}
use Rattle.sequences.specs.Handed.{ReaderData, standing, part_found, handed_at, passed_at, passing}
use Rattle.formats.specs.Pieces.{rest_from, piece_end, piece_says, giving}
use Rattle.formats.specs.Walks.{PieceData, piece_data}
use Rattle.formats.specs.Witnesses.{PartData, PlacePart, InnerPart, is_place, part_of, within, kind_says}
use Rattle.formats.proofs.PieceTests.{given_fault, given, given_ok, given_err, found_ends}

module _ (r : ReaderData) where
  pub handed_none : length r.bytes ≤ r.at → Ok None ≡ handed_at r
  unfolding handed_at
  handed_none l = sym (cond-false (ltb r.at (length r.bytes)) (giving (part_found r) (Some (part_of (piece_data r.bytes r.at)))) (Ok None) (le-ltb _ _ l))

  pub passed_none : length r.bytes ≤ r.at → r ≡ passed_at r
  unfolding passed_at
  passed_none l = sym (cond-false (ltb r.at (length r.bytes)) (passing (part_found r) r) r (le-ltb _ _ l))

  pub handed_fault : (f : Fault) → r.at < length r.bytes → Err f ≡ part_found r → Err f ≡ handed_at r
  unfolding handed_at
  handed_fault f l e = given_fault _ _ _ e ∙ sym (cond-true (ltb r.at (length r.bytes)) (giving (part_found r) (Some (part_of (piece_data r.bytes r.at)))) (Ok None) (lt-ltb _ _ l))

  pub passed_fault : (f : Fault) → r.at < length r.bytes → Err f ≡ part_found r → r ≡ passed_at r
  unfolding passed_at
  passed_fault f l e = ap (λ (s : Said). passing s r) e ∙ sym (cond-true (ltb r.at (length r.bytes)) (passing (part_found r) r) r (lt-ltb _ _ l))

  pub handed_some : (p : PartData) → r.at < length r.bytes → Ok tt ≡ part_found r → p ≡ part_of (piece_data r.bytes r.at) → Ok (Some p) ≡ handed_at r
  unfolding handed_at
  handed_some p l e h = given _ _ _ e (ap (λ (x : PartData). Some x) h) ∙ sym (cond-true (ltb r.at (length r.bytes)) (giving (part_found r) (Some (part_of (piece_data r.bytes r.at)))) (Ok None) (lt-ltb _ _ l))

  pub passed_some : r.at < length r.bytes → Ok tt ≡ part_found r → standing r.bytes (piece_end r.bytes r.at) ≡ passed_at r
  unfolding passed_at
  passed_some l e = ap (λ (s : Said). passing s r) e ∙ sym (cond-true (ltb r.at (length r.bytes)) (passing (part_found r) r) r (lt-ltb _ _ l))

  -- and back
  pub none_handed : Ok None ≡ handed_at r → length r.bytes ≤ r.at
  unfolding handed_at
  none_handed e =
      elim (cases_lt r.at (length r.bytes)) [
        | inl l ↦
            let x = e ∙ cond-true (ltb r.at (length r.bytes)) (giving (part_found r) (Some (part_of (piece_data r.bytes r.at)))) (Ok None) (lt-ltb _ _ l) in
            let y = (given_ok _ _ _ x).1 in
            let z : ◌≡◌ {A = ℕ} 0 1 = cc in absurd (omega arith)
        | inr l ↦ l
      ]

  pub fault_handed : (f : Fault) → Err f ≡ handed_at r → (r.at < length r.bytes) × (Err f ≡ part_found r)
  unfolding handed_at
  fault_handed f e =
      elim (cases_lt r.at (length r.bytes)) [
        | inl l ↦ (l, given_err _ _ _ (e ∙ cond-true (ltb r.at (length r.bytes)) (giving (part_found r) (Some (part_of (piece_data r.bytes r.at)))) (Ok None) (lt-ltb _ _ l)))
        | inr l ↦
            let x = e ∙ cond-false (ltb r.at (length r.bytes)) (giving (part_found r) (Some (part_of (piece_data r.bytes r.at)))) (Ok None) (le-ltb _ _ l) in
            let z : ◌≡◌ {A = ℕ} 0 1 = cc in absurd (omega arith)
      ]

  -- a piece was handed out: what it is, and where the reader stands behind it
  pub record Given (p : PartData) : Type 0 where
    pub begins : r.at < length r.bytes
    pub found : Ok tt ≡ part_found r
    pub part : p ≡ part_of (piece_data r.bytes r.at)
    pub stands : passed_at r ≡ standing r.bytes (piece_end r.bytes r.at)
    pub ends : piece_end r.bytes r.at ≤ length r.bytes

  pub some_handed : (p : PartData) → Ok (Some p) ≡ handed_at r → Given p
  unfolding handed_at
  some_handed p e =
      elim (cases_lt r.at (length r.bytes)) [
        | inl l ↦
            let x = e ∙ cond-true (ltb r.at (length r.bytes)) (giving (part_found r) (Some (part_of (piece_data r.bytes r.at)))) (Ok None) (lt-ltb _ _ l) in
            let y = given_ok _ _ _ x in
            let h = y.1 in
            record {
              begins = l;
              found = y.0;
              part = cc;
              stands = sym (passed_some l y.0);
              ends = found_ends WitnessLength r.bytes r.at (both (piece_says WitnessLength r.bytes r.at) (kind_says (piece_data r.bytes r.at)) (sym y.0)).0;
            }
        | inr l ↦
            let x = e ∙ cond-false (ltb r.at (length r.bytes)) (giving (part_found r) (Some (part_of (piece_data r.bytes r.at)))) (Ok None) (le-ltb _ _ l) in
            let z : ◌≡◌ {A = ℕ} 0 1 = cc in absurd (omega arith)
      ]

-- the piece within a part
pub within_part : (p : PieceData) → within (part_of p) ≡ p
within_part p = cond_both (is_place p) (PlacePart p) (InnerPart p) (λ (q : PartData). within q ≡ p) (λ _. refl) (λ _. refl)

-- it is the piece that stands there, its bytes all have an offset, and the reader comes on
module _ (r : ReaderData) (p : PartData) (g : Given r p) where
  pub part_is : within p ≡ piece_data r.bytes r.at
  part_is = ap within g.part ∙ within_part (piece_data r.bytes r.at)

  pub part_located : length r.bytes < 2 ^ 64 → rest_from (within p).offset + length (within p).rest < 2 ^ 64
  part_located h =
      let e = g.ends in
      let l = length-take (word_at r.bytes r.at) (drop (rest_from r.at) r.bytes) in
      subst (λ (q : PieceData). rest_from q.offset + length q.rest < 2 ^ 64) (sym part_is) (omega (arith, e, l, h))

  pub comes_on : (q : ReaderData) → q ≡ passed_at r → length q.bytes - q.at < length r.bytes - r.at
  comes_on q e =
      let b = g.begins in
      subst (λ (x : ReaderData). length x.bytes - x.at < length r.bytes - r.at) (sym (e ∙ g.stands)) (omega (arith, b))
