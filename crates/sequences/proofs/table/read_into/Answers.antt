use Rattle.std.proofs.Common.{◌≡◌, ℕ, ◌≤◌, ◌&&◌, leb, length, drop, Ok, sym, ap, ◌∙◌, subst}
use Rattle.std.proofs.lemmas.Bool.{and_parts, leb-true}
use Rattle.rows.proofs.Chains.{goes, check_true}
use Rattle.records.specs.Held.{held, room}
use Rattle.records.specs.Limits.{most_transitions, most_places, most_inners}
use Rattle.records.specs.Records.{heading_of, shape_of}
use Rattle.formats.specs.Tables.{heading_shape, heading_rest, content_says, table_at, memory_says}
use Rattle.formats.proofs.PieceTests.{given, given_ok}
use Rattle.formats.proofs.TableParts.{Parts, content_parts}
use Rattle.sequences.proofs.table.read_into.Goals as goal
use Rattle.sequences.specs.TransitionsHanded.{ReadingData, starting, coming, coming_say}
use Rattle.sequences.proofs.table.read_into.Goals.{After-clear}

-- the bytes have passed, and what the code takes from them
module _ (c : After-clear) where
  passed : Ok tt ≡ content_says c.args.bytes.now
  passed = (given_ok _ _ _ c.in_ok-heading.ensures).0

  parts : Parts c.args.bytes.now
  parts = content_parts c.args.bytes.now (sym passed)

  shaped : shape_of (heading_of c.in_ok-heading.heading) ≡ heading_shape (heading_rest c.args.bytes.now)
  unfolding table_at
  shaped = ap shape_of (given_ok _ _ _ c.in_ok-heading.ensures).1

  starts : starting c.args.bytes.now (shape_of (heading_of c.in_ok-heading.heading)) ≡ starting c.args.bytes.now (heading_shape (heading_rest c.args.bytes.now))
  starts = ap (starting c.args.bytes.now) shaped

  roomy : most_transitions ≤ room c.args.transitions.now
  roomy =
      let m = c.in_ok-memory_test.ensures in
      subst (λ (n : ℕ). most_transitions ≤ n) c.capacity.ensures
      (leb-true _ _ (and_parts (leb most_transitions c.capacity.result) (leb most_places c.args.places && leb most_inners c.args.inners) (check_true _ _ (sym m))).0)

pub new-requires : goal.new-requires
new-requires c = (parts (goal.at.new-requires c).After-clear).ends

pub fill-requires : goal.fill-requires
fill-requires c =
    let d = (goal.at.fill-requires c).After-clear in
    record {
      passed = sym (parts d).transitions ∙ ap coming_say (sym (c.new.ensures ∙ starts d));
      empty = c.clear.ensures.held;
      room = subst (λ (n : ℕ). c.new.result.room ≤ n) (sym c.clear.ensures.room) (subst (λ (n : ℕ). n ≤ room c.args.transitions.now) (sym (ap (λ (r : ReadingData). r.room) c.new.ensures)) (roomy d));
    }

pub returns : goal.returns
unfolding table_at
returns c =
    let d = (goal.at.returns c).After-clear in
    record {
      answer = given _ _ _ (goes _ _ _ c.in_ok-version_test.ensures (goes _ _ _ (c.in_ok-memory_test.ensures ∙ ap (λ (n : ℕ). memory_says n c.args.places c.args.inners) c.capacity.ensures) (passed d))) (given_ok _ _ _ c.in_ok-heading.ensures).1;
      memory = (
        c.fill.ensures.held ∙ ap coming (c.new.ensures ∙ starts d),
        c.fill.ensures.behind ∙ ap (drop (length (held c.fill.new.register))) c.clear.ensures.behind,
      );
    }
