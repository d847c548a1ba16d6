-- Walking over pieces, one step at a time: the walk and the list of pieces do not depend on how many pieces they allow
-- for, as long as these are enough.
use Rattle.std.proofs.Common.{◌≡◌, ℕ, zero, suc, ◌+◌, ◌<◌, ◌≤◌, cond, ltb, List, [], ◌∷◌, length, Ok, Err, sym, refl, ap, ◌∙◌, inl, inr, arith}
use Rattle.std.proofs.lemmas.Bool.{lt-ltb, le-ltb, cond-true, cond-false, cases_lt}
use Rattle.rows.specs.declared.fault.Fault.{Fault}
use Rattle.rows.specs.declared.fault.FaultKind.{FaultKind}
use Rattle.rows.specs.Faults.{Said, ◌and_then◌}
use Rattle.rows.proofs.Chains.{stops, goes}
use Rattle.formats.specs.Pieces.{piece_end, piece_says}
use Rattle.formats.specs.Walks.{PieceData, piece_data, left, pieces_at, walk_says}

module _ (bytes : List ℕ) where
  none_past : (n at : ℕ) → length bytes ≤ at → pieces_at bytes n at ≡ []
  unfolding pieces_at
  none_past zero at l = refl
  none_past (suc n) at l = cond-false (ltb at (length bytes)) (piece_data bytes at ∷ pieces_at bytes n (piece_end bytes at)) [] (le-ltb _ _ l)

  pieces_enough : (n m at : ℕ) → left bytes at ≤ n → left bytes at ≤ m → pieces_at bytes n at ≡ pieces_at bytes m at
  unfolding pieces_at
  pieces_enough zero m at h k = sym (none_past m at (omega arith))
  pieces_enough (suc n) zero at h k = none_past (suc n) at (omega arith)
  pieces_enough (suc n) (suc m) at h k =
      elim (cases_lt at (length bytes)) [
        | inl l ↦ ap (λ (ps : List PieceData). cond (ltb at (length bytes)) (piece_data bytes at ∷ ps) []) (pieces_enough n m (piece_end bytes at) (omega arith) (omega arith))
        | inr l ↦ none_past (suc n) at l ∙ sym (none_past (suc m) at l)
      ]

  pub pieces_more : (at : ℕ) → at < length bytes → pieces_at bytes (left bytes at) at ≡ piece_data bytes at ∷ pieces_at bytes (left bytes (piece_end bytes at)) (piece_end bytes at)
  unfolding pieces_at
  pieces_more at l =
      pieces_enough (left bytes at) (suc (left bytes (at + 1))) at (omega arith) (omega arith)
      ∙ cond-true (ltb at (length bytes)) (piece_data bytes at ∷ pieces_at bytes (left bytes (at + 1)) (piece_end bytes at)) [] (lt-ltb _ _ l)
      ∙ ap (λ (ps : List PieceData). piece_data bytes at ∷ ps) (pieces_enough (left bytes (at + 1)) (left bytes (piece_end bytes at)) (piece_end bytes at) (omega arith) (omega arith))

  pub pieces_all : (at : ℕ) → length bytes ≤ at → pieces_at bytes (left bytes at) at ≡ []
  pieces_all at l = none_past (left bytes at) at l

  module _ {S : Type 0} (kind : FaultKind) (test : S → PieceData → Said) (next : S → PieceData → S) where
    walk_past : (n : ℕ) (s : S) (at : ℕ) → length bytes ≤ at → walk_says kind test next bytes n s at ≡ Ok tt
    unfolding walk_says
    walk_past zero s at l = refl
    walk_past (suc n) s at l = cond-false (ltb at (length bytes)) ((piece_says kind bytes at and_then test s (piece_data bytes at)) and_then walk_says kind test next bytes n (next s (piece_data bytes at)) (piece_end bytes at)) (Ok tt) (le-ltb _ _ l)

    walk_enough : (n m : ℕ) (s : S) (at : ℕ) → left bytes at ≤ n → left bytes at ≤ m → walk_says kind test next bytes n s at ≡ walk_says kind test next bytes m s at
    unfolding walk_says
    walk_enough zero m s at h k = sym (walk_past m s at (omega arith))
    walk_enough (suc n) zero s at h k = walk_past (suc n) s at (omega arith)
    walk_enough (suc n) (suc m) s at h k =
        elim (cases_lt at (length bytes)) [
          | inl l ↦ ap (λ (x : Said). cond (ltb at (length bytes)) ((piece_says kind bytes at and_then test s (piece_data bytes at)) and_then x) (Ok tt)) (walk_enough n m (next s (piece_data bytes at)) (piece_end bytes at) (omega arith) (omega arith))
          | inr l ↦ walk_past (suc n) s at l ∙ sym (walk_past (suc m) s at l)
        ]

    -- the walk from a piece on
    pub walk_step : (s : S) (at : ℕ) → at < length bytes → walk_says kind test next bytes (left bytes at) s at ≡ ((piece_says kind bytes at and_then test s (piece_data bytes at)) and_then walk_says kind test next bytes (left bytes (piece_end bytes at)) (next s (piece_data bytes at)) (piece_end bytes at))
    unfolding walk_says
    walk_step s at l =
        walk_enough (left bytes at) (suc (left bytes (at + 1))) s at (omega arith) (omega arith)
        ∙ cond-true (ltb at (length bytes)) ((piece_says kind bytes at and_then test s (piece_data bytes at)) and_then walk_says kind test next bytes (left bytes (at + 1)) (next s (piece_data bytes at)) (piece_end bytes at)) (Ok tt) (lt-ltb _ _ l)
        ∙ ap (λ (x : Said). (piece_says kind bytes at and_then test s (piece_data bytes at)) and_then x) (walk_enough (left bytes (at + 1)) (left bytes (piece_end bytes at)) (next s (piece_data bytes at)) (piece_end bytes at) (omega arith) (omega arith))

    pub walk_fault : (s : S) (at : ℕ) (f : Fault) → at < length bytes → Err f ≡ (piece_says kind bytes at and_then test s (piece_data bytes at)) → Err f ≡ walk_says kind test next bytes (left bytes at) s at
    walk_fault s at f l e = stops _ _ _ e ∙ sym (walk_step s at l)

    pub walk_more : (s : S) (at : ℕ) → at < length bytes → Ok tt ≡ (piece_says kind bytes at and_then test s (piece_data bytes at)) → walk_says kind test next bytes (left bytes (piece_end bytes at)) (next s (piece_data bytes at)) (piece_end bytes at) ≡ walk_says kind test next bytes (left bytes at) s at
    walk_more s at l e = goes _ _ _ e refl ∙ sym (walk_step s at l)

    pub walk_all : (s : S) (at : ℕ) → length bytes ≤ at → Ok tt ≡ walk_says kind test next bytes (left bytes at) s at
    walk_all s at l = sym (walk_past (left bytes at) s at l)
