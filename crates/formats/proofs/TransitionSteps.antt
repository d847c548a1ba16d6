-- The pieces of transitions, one step of reading at a time.
use Rattle.std.proofs.Common.{◌≡◌, ℕ, zero, suc, ◌+◌, ◌-◌, ◌<◌, ◌≤◌, true, ltb, List, [], ◌∷◌, length, Ok, Err, sym, refl, ap, ◌∙◌, arith}
use Rattle.std.proofs.lemmas.Bool.{lt-ltb, le-ltb, cond-true, cond-false, ltb-true}
use Rattle.rows.specs.declared.fault.Fault.{Fault}
use Rattle.rows.specs.declared.fault.FaultKind.TheVariants.{TableLength, TableCount}
use Rattle.rows.specs.Bytes.{word_at}
use Rattle.rows.specs.Faults.{◌and_then◌}
use Rattle.rows.proofs.Chains.{stops, goes, both}
use Rattle.records.specs.declared.shape.Shape.{Shape}
use Rattle.formats.specs.Pieces.{fault_at, piece_at, piece_end, piece_says, reach_says}
use Rattle.formats.specs.Tables.{number_from, guard_count_from, transition_at, transition_says, next_says, transitions_at, transitions_say}
use Rattle.formats.proofs.HeadingLimits.{second}
use Rattle.formats.proofs.PieceTests.{found_ends}

before : (n : ℕ) → suc n - 1 ≡ n
before n = omega arith

transition_room : (shape : Shape) (room last offset : ℕ) (rest : List ℕ) → transition_says shape room last offset rest ≡ Ok tt → ltb 0 room ≡ true
unfolding transition_says
transition_room shape room last offset rest e = (second (reach_says TableLength offset rest (guard_count_from + 1)) (ltb 0 room) (fault_at TableCount offset) _ e).0

module _ (shape : Shape) (bytes : List ℕ) where
  -- a piece that passes finds room, and ends within the bytes
  pub next_room : (room last at : ℕ) → Ok tt ≡ next_says shape bytes room last at → 0 < room
  next_room room last at e = ltb-true 0 room (transition_room shape room last at (piece_at bytes at) (both (piece_says TableLength bytes at) (transition_says shape room last at (piece_at bytes at)) (sym e)).1)

  pub next_ends : (room last at : ℕ) → Ok tt ≡ next_says shape bytes room last at → piece_end bytes at ≤ length bytes
  next_ends room last at e = found_ends TableLength bytes at (both (piece_says TableLength bytes at) (transition_says shape room last at (piece_at bytes at)) (sym e)).0

  pub say_fault : (room last at : ℕ) (f : Fault) → at < length bytes → Err f ≡ next_says shape bytes room last at → Err f ≡ transitions_say shape bytes room last at
  unfolding transitions_say
  say_fault zero last at f l e = e ∙ sym (cond-true (ltb at (length bytes)) _ _ (lt-ltb _ _ l))
  say_fault (suc room) last at f l e = stops _ _ _ e ∙ sym (cond-true (ltb at (length bytes)) _ _ (lt-ltb _ _ l))

  pub say_more : (room last at : ℕ) → at < length bytes → Ok tt ≡ next_says shape bytes room last at → transitions_say shape bytes (room - 1) (word_at (piece_at bytes at) number_from) (piece_end bytes at) ≡ transitions_say shape bytes room last at
  unfolding transitions_say
  say_more zero last at l e = absurd (let h = next_room zero last at e in omega arith)
  say_more (suc room) last at l e =
      ap (λ (n : ℕ). transitions_say shape bytes n (word_at (piece_at bytes at) number_from) (piece_end bytes at)) (before room)
      ∙ goes _ _ _ e refl
      ∙ sym (cond-true (ltb at (length bytes)) _ _ (lt-ltb _ _ l))

  pub say_all : (room last at : ℕ) → length bytes ≤ at → Ok tt ≡ transitions_say shape bytes room last at
  unfolding transitions_say
  say_all zero last at l = sym (cond-false (ltb at (length bytes)) (next_says shape bytes zero last at) (Ok tt) (le-ltb _ _ l))
  say_all (suc room) last at l = sym (cond-false (ltb at (length bytes)) (next_says shape bytes (suc room) last at and_then transitions_say shape bytes room (word_at (piece_at bytes at) number_from) (piece_end bytes at)) (Ok tt) (le-ltb _ _ l))

  pub at_more : (room at : ℕ) → at < length bytes → 0 < room → transitions_at shape bytes room at ≡ transition_at shape (piece_at bytes at) ∷ transitions_at shape bytes (room - 1) (piece_end bytes at)
  unfolding transitions_at
  at_more zero at l h = absurd (omega arith)
  at_more (suc room) at l h =
      cond-true (ltb at (length bytes)) (transition_at shape (piece_at bytes at) ∷ transitions_at shape bytes room (piece_end bytes at)) [] (lt-ltb _ _ l)
      ∙ ap (λ (n : ℕ). transition_at shape (piece_at bytes at) ∷ transitions_at shape bytes n (piece_end bytes at)) (sym (before room))

  pub at_all : (room at : ℕ) → length bytes ≤ at → transitions_at shape bytes room at ≡ []
  unfolding transitions_at
  at_all zero at l = refl
  at_all (suc room) at l = cond-false (ltb at (length bytes)) (transition_at shape (piece_at bytes at) ∷ transitions_at shape bytes room (piece_end bytes at)) [] (le-ltb _ _ l)
