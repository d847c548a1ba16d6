use Rattle.std.proofs.Common.{◌≡◌, ℕ, ◌+◌, ◌<◌, List, [], ◌∷◌, ◌++◌, map, length, drop, Ok, Option, sym, refl, ap, ◌∙◌, subst, append_assoc, arith}
use Rattle.std.proofs.lemmas.List.{map_push, length_push, drop-drop, append-nil}
use Rattle.rows.proofs.Chains.{never}
use Rattle.records.specs.declared.records.Transition.{Transition}
use Rattle.records.specs.Held.{held, behind, room}
use Rattle.records.specs.Records.{TransitionData, transition_of}
use Rattle.records.proofs.Fronts.{took_held}
use Rattle.sequences.specs.TransitionsHanded.{reading_of, coming, HandedOut}
use Rattle.sequences.proofs.TransitionsRead.{Advanced, advanced, none_left, lost}
use Rattle.sequences.proofs.table.fill.Goals as goal

pub loop-transition-init : goal.loop-transition-init
loop-transition-init c =
    let n = ap length c.requires.empty in
    record {
      passed = c.requires.passed;
      items = ap (λ (ts : List Transition). map transition_of ts ++ coming (reading_of c.args.reader)) c.requires.empty;
      fits = let r = c.requires.room in omega (arith, n, r);
      behind_is = sym (ap (λ (k : ℕ). drop k (behind c.args.register.now)) n);
    }

pub returns-in_err-transition : goal.returns-in_err-transition
returns-in_err-transition c = never _ (lost (reading_of c.loop-transition.reader) _ _ c.in_err-transition.ensures ∙ sym c.loop-transition.invariant.passed)

-- what a turn reads and puts
module _ (c : goal.After-push) where
  read : Advanced (reading_of c.loop-transition.reader) (reading_of c.next.new.self) c.in-Some.transition
  read =
      advanced _ _ _
      (subst (λ (o : Option Transition). HandedOut (reading_of c.loop-transition.reader) (Ok o) (reading_of c.next.new.self)) c.in-Some.is c.in_ok-transition.ensures)

  fits : length (held c.loop-transition.register) < room c.loop-transition.register
  fits = omega (arith, read.room, c.loop-transition.invariant.fits)

  now_held : held c.push.new.self ≡ held c.loop-transition.register ++ c.in-Some.transition ∷ []
  now_held = took_held _ _ _ _ _ _ c.push.ensures.took fits c.push.ensures.held

  now_behind : behind c.push.new.self ≡ drop 1 (behind c.loop-transition.register)
  now_behind = took_held _ _ _ _ _ _ c.push.ensures.took fits c.push.ensures.behind

  one_more : length (held c.push.new.self) ≡ length (held c.loop-transition.register) + 1
  one_more = ap length now_held ∙ length_push (held c.loop-transition.register) c.in-Some.transition

pub loop-transition-smaller : goal.loop-transition-smaller
loop-transition-smaller c = (read c).smaller

pub loop-transition-preserved : goal.loop-transition-preserved
loop-transition-preserved c =
    let x = c.in-Some.transition in
    let ts = held c.loop-transition.register in
    let ahead = coming (reading_of c.next.new.self) in
    let i = c.loop-transition.invariant in
    record {
      passed = i.passed ∙ sym (read c).say;
      items =
          ap (λ (us : List Transition). map transition_of us ++ ahead) (now_held c)
          ∙ ap (λ (us : List TransitionData). us ++ ahead) (map_push transition_of ts x)
          ∙ append_assoc (map transition_of ts) (transition_of x ∷ []) ahead
          ∙ ap (λ (us : List TransitionData). map transition_of ts ++ us) (sym (read c).list)
          ∙ i.items;
      fits = omega (arith, one_more c, (read c).room, i.fits, c.push.ensures.room);
      behind_is =
          now_behind c
          ∙ ap (drop 1) i.behind_is
          ∙ drop-drop 1 (length ts) (behind c.args.register.now)
          ∙ ap (λ (k : ℕ). drop k (behind c.args.register.now)) (sym (one_more c));
    }

pub returns : goal.returns
returns c =
    let h = subst (λ (o : Option Transition). HandedOut (reading_of c.loop-transition.reader) (Ok o) (reading_of c.next.new.self)) c.in_default.is c.in_ok-transition.ensures in
    record {
      passed = refl;
      held =
          sym (append-nil (map transition_of (held c.loop-transition.register)))
          ∙ ap (λ (ts : List TransitionData). map transition_of (held c.loop-transition.register) ++ ts) (sym (none_left _ _ h).1)
          ∙ c.loop-transition.invariant.items;
      behind = c.loop-transition.invariant.behind_is;
    }
