-- The tests on the fields of a piece, both ways; and a piece as it is written and found.
use Rattle.std.proofs.Common.{◌≡◌, ℕ, ◌+◌, ◌<◌, ◌≤◌, Bool, true, ◌&&◌, eqb, ltb, leb, List, ◌++◌, length, take, drop, Ok, sym, refl, ap, ◌∙◌, arith}
use Rattle.std.proofs.ByRecursion.{All-take, All-drop}
use Rattle.std.proofs.lemmas.List.{append_assoc, length-append, length-drop, take_at, drop_at, drop-drop}
use Rattle.std.proofs.lemmas.Bool.{le-leb, lt-ltb, eq-eqb, leb-true, ltb-true, eqb-true, and_parts, and_from}
use Rattle.rows.specs.declared.fault.Fault.{Fault}
use Rattle.rows.specs.declared.fault.FaultKind.{FaultKind}
use Rattle.rows.specs.Bytes.{word_at}
use Rattle.rows.specs.Faults.{Said, ◌and_then◌, check}
use Rattle.rows.proofs.Chains.{goes, checked, check_true}
use Rattle.formats.specs.Pieces.{byte_at, fault_at, rest_from, piece_at, piece_end, piece_says, reach_says, long_says, count_says, above_says}
use Rattle.formats.specs.Writing.{AreBytes, word_bytes, piece_bytes}
use Rattle.formats.proofs.PieceTests.{found, found_ends}
use Rattle.formats.proofs.Segments.{cut_drop, cut_length, stands_drop, word_back, word_only}

-- one test passed, then the rest
pub passes_then : (a b : Said) → a ≡ Ok tt → b ≡ Ok tt → (a and_then b) ≡ Ok tt
passes_then a b h k = sym (goes a b (Ok tt) (sym h) (sym k))

pub check_passes : (t : Bool) (f : Fault) → t ≡ true → check t f ≡ Ok tt
check_passes t f e = sym (checked t f e)

module _ (kind : FaultKind) (offset : ℕ) (rest : List ℕ) where
  pub reach_passes : (n : ℕ) → n ≤ length rest → reach_says kind offset rest n ≡ Ok tt
  reach_passes n l = check_passes (leb n (length rest)) (fault_at kind offset) (le-leb n (length rest) l)

  pub reach_passed : (n : ℕ) → reach_says kind offset rest n ≡ Ok tt → n ≤ length rest
  reach_passed n e = leb-true n (length rest) (check_true (leb n (length rest)) (fault_at kind offset) e)

  pub long_passes : (n : ℕ) → length rest ≡ n → long_says kind offset rest n ≡ Ok tt
  long_passes n l = check_passes (eqb (length rest) n) (fault_at kind offset) (eq-eqb (length rest) n l)

  pub long_passed : (n : ℕ) → long_says kind offset rest n ≡ Ok tt → length rest ≡ n
  long_passed n e = eqb-true (length rest) n (check_true (eqb (length rest) n) (fault_at kind offset) e)

  pub count_passes : (at least most : ℕ) → least ≤ byte_at rest at → byte_at rest at ≤ most → count_says kind offset rest at least most ≡ Ok tt
  count_passes at least most l h =
      check_passes (leb least (byte_at rest at) && leb (byte_at rest at) most) (fault_at kind (rest_from offset + at))
      (and_from (leb least (byte_at rest at)) (leb (byte_at rest at) most) (le-leb least (byte_at rest at) l) (le-leb (byte_at rest at) most h))

  pub count_passed : (at least most : ℕ) → count_says kind offset rest at least most ≡ Ok tt → (least ≤ byte_at rest at) × (byte_at rest at ≤ most)
  count_passed at least most e =
      let p = and_parts (leb least (byte_at rest at)) (leb (byte_at rest at) most) (check_true (leb least (byte_at rest at) && leb (byte_at rest at) most) (fault_at kind (rest_from offset + at)) e) in
      (leb-true least (byte_at rest at) p.0, leb-true (byte_at rest at) most p.1)

  pub above_passes : (at least : ℕ) → least < word_at rest at → above_says kind offset rest at least ≡ Ok tt
  above_passes at least l = check_passes (ltb least (word_at rest at)) (fault_at kind (rest_from offset + at)) (lt-ltb least (word_at rest at) l)

  pub above_passed : (at least : ℕ) → above_says kind offset rest at least ≡ Ok tt → least < word_at rest at
  above_passed at least e = ltb-true least (word_at rest at) (check_true (ltb least (word_at rest at)) (fault_at kind (rest_from offset + at)) e)

-- a written piece is found where it stands: its rest, and what is behind it
pub record Found (kind : FaultKind) (bytes : List ℕ) (at : ℕ) (rest more : List ℕ) : Type 0 where
  pub passes : piece_says kind bytes at ≡ Ok tt
  pub rest_is : piece_at bytes at ≡ rest
  pub behind : drop (piece_end bytes at) bytes ≡ more
  pub before : at < length bytes

pub piece_back : (kind : FaultKind) (bytes : List ℕ) (at : ℕ) (rest more : List ℕ) → drop at bytes ≡ piece_bytes rest ++ more → Found kind bytes at rest more
piece_back kind bytes at rest more e =
    let d : drop at bytes ≡ word_bytes (length rest) ++ (rest ++ more) = e ∙ append_assoc (word_bytes (length rest)) rest more in
    let w = word_back bytes at (length rest) (stands_drop bytes at (word_bytes (length rest)) (rest ++ more) d) in
    let a : drop (rest_from at) bytes ≡ rest ++ more = sym (drop-drop 2 at bytes) ∙ ap (drop 2) d in
    let n = length-append rest more in
    let m = length-drop at bytes in
    let s = ap length d in
    record {
      passes = sym (found kind bytes at (omega arith));
      rest_is = ap (λ (k : ℕ). take k (drop (rest_from at) bytes)) w ∙ ap (take (length rest)) a ∙ take_at rest more (length rest) refl;
      behind =
          ap (λ (k : ℕ). drop (rest_from at + k) bytes) w ∙ sym (drop-drop (length rest) (rest_from at) bytes)
          ∙ ap (drop (length rest)) a ∙ drop_at rest more (length rest) refl;
      before = omega arith;
    }

-- a piece that is found is written there
module _ (kind : FaultKind) (bytes : List ℕ) (bs : AreBytes bytes) (at : ℕ) (e : piece_says kind bytes at ≡ Ok tt) where
  pub piece-are_bytes : AreBytes (piece_at bytes at)
  piece-are_bytes = All-take (λ b. b < 256) (word_at bytes at) (drop (rest_from at) bytes) (All-drop (λ b. b < 256) (rest_from at) bytes bs)

  pub piece_only : piece_bytes (piece_at bytes at) ++ drop (piece_end bytes at) bytes ≡ drop at bytes
  piece_only =
      let l = found_ends kind bytes at e in
      let n = cut_length (rest_from at) (word_at bytes at) bytes l in
      append_assoc (word_bytes (length (piece_at bytes at))) (piece_at bytes at) (drop (piece_end bytes at) bytes)
      ∙ ap (λ (ys : List ℕ). word_bytes (length (piece_at bytes at)) ++ ys) (cut_drop (rest_from at) (word_at bytes at) bytes)
      ∙ ap (λ (k : ℕ). word_bytes k ++ drop (rest_from at) bytes) n
      ∙ ap (λ (ys : List ℕ). ys ++ drop (rest_from at) bytes) (word_only bytes bs at (omega arith))
      ∙ cut_drop at 2 bytes
