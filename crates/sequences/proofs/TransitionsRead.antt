-- The transitions still to come, one step of reading at a time.
use Rattle.std.proofs.Common.{◌≡◌, ◌+◌, ◌-◌, ◌<◌, [], ◌∷◌, length, None, Some, Ok, Err, sym, ap, ◌∙◌, subst, arith}
use Rattle.rows.specs.declared.fault.Fault.{Fault}
use Rattle.records.specs.declared.records.Transition.{Transition}
use Rattle.records.specs.Records.{TransitionData, transition_of}
use Rattle.formats.proofs.TransitionSteps.{next_room, next_ends, say_fault, say_more, say_all, at_more, at_all}
use Rattle.sequences.specs.TransitionsHanded.{ReadingData, behind_next, coming, coming_say, HandedOut}

-- a transition was handed out: the reader stands behind it
pub record Advanced (r s : ReadingData) (t : Transition) : Type 0 where
  pub say : coming_say s ≡ coming_say r
  pub list : coming r ≡ transition_of t ∷ coming s
  pub room : r.room ≡ s.room + 1
  pub smaller : length s.bytes - s.at < length r.bytes - r.at

module _ (r s : ReadingData) where
  pub advanced : (t : Transition) → HandedOut r (Ok (Some t)) s → Advanced r s t
  advanced t h =
      let some = next_room r.shape r.bytes r.room r.last r.at h.1 in
      let ends = next_ends r.shape r.bytes r.room r.last r.at h.1 in
      let begins = h.0 in
      subst (λ (q : ReadingData). Advanced r q t) (sym h.3)
      record {
        say = say_more r.shape r.bytes r.room r.last r.at h.0 h.1;
        list = at_more r.shape r.bytes r.room r.at h.0 some ∙ ap (λ (x : TransitionData). x ∷ coming (behind_next r)) (sym h.2);
        room = omega (arith, some);
        smaller = omega (arith, begins, ends);
      }

  -- none is left
  pub none_left : HandedOut r (Ok None) s → (Ok tt ≡ coming_say r) × (coming r ≡ [])
  none_left h = (say_all r.shape r.bytes r.room r.last r.at h.0, at_all r.shape r.bytes r.room r.at h.0)

  -- a fault of the next piece is that of the whole
  pub lost : (f : Fault) → HandedOut r (Err f) s → Err f ≡ coming_say r
  lost f h = say_fault r.shape r.bytes r.room r.last r.at f h.0 h.1
