use Rattle.std.proofs.Common.{◌≡◌, ℕ, Ok, ap, ◌∙◌}
use Rattle.rows.proofs.Chains.{goes}
use Rattle.formats.specs.Tables.{transition_says}
use Rattle.formats.proofs.PieceTests.{given_ok}
use Rattle.formats.proofs.TransitionSteps.{next_room}
use Rattle.sequences.specs.TransitionsHanded.{reading_of, next_test}
use Rattle.sequences.proofs.transitions.TransitionReader.next.Goals as goal
use Rattle.sequences.proofs.transitions.TransitionReader.next.Goals.{In_ok-transition}

module _ (c : In_ok-transition) where
  said : Ok tt ≡ next_test (reading_of c.args.self.now)
  said =
      let r = c.args.self.now in
      let i = c.in_ok-piece.ensures in
      goes _ _ _ i.0 ((given_ok _ _ _ c.in_ok-transition.ensures).0 ∙ ap (λ (o : ℕ). transition_says r.shape r.room r.last o c.in_ok-piece.piece.rest.now) i.1.offset ∙ ap (transition_says r.shape r.room r.last r.at) i.1.rest)

pub overflow_sub-self : goal.overflow_sub-self
overflow_sub-self c =
    let r = c.args.self.now in
    next_room r.shape r.bytes.now r.room r.last r.at (said (goal.at.overflow_sub-self c).In_ok-transition)
