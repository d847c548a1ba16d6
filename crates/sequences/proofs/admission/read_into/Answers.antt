use Rattle.std.proofs.Common.{◌≡◌, ℕ, ◌≤◌, true, leb, length, drop, Ok, sym, ap, ◌∙◌, subst}
use Rattle.std.proofs.lemmas.Bool.{and_parts, leb-true}
use Rattle.rows.proofs.Chains.{goes, check_true}
use Rattle.sequences.specs.Admitted.{AdmittedInto}
use Rattle.records.specs.Held.{held, room}
use Rattle.records.specs.Limits.{most_places, most_inners}
use Rattle.formats.specs.Witnesses.{pieces_say, witness_at, witness_memory_says}
use Rattle.formats.proofs.WitnessParts.{content_pieces}
use Rattle.sequences.specs.TableGiven.{shape_in, transitions_in}
use Rattle.sequences.proofs.admission.read_into.Goals as goal
use Rattle.sequences.proofs.admission.read_into.Goals.{After-clear-2}

module _ (c : After-clear-2) where
  roomy : (leb most_places c.capacity.result ≡ true) × (leb most_inners c.capacity-2.result ≡ true)
  roomy = and_parts (leb most_places c.capacity.result) (leb most_inners c.capacity-2.result) (check_true _ _ (sym c.in_ok-memory_test.ensures))

  passed : Ok tt ≡ pieces_say (shape_in c.args.table) c.args.bytes.now
  passed = sym (content_pieces (transitions_in c.args.table) (shape_in c.args.table) c.args.bytes.now (sym c.in_ok-tested.ensures))

pub fill-requires : goal.fill-requires
fill-requires c =
    let d = (goal.at.fill-requires c).After-clear-2 in
    record {
      passed = passed d;
      no_places = c.clear.ensures.held;
      no_inners = c.clear-2.ensures.held;
      places_room = subst (λ (n : ℕ). most_places ≤ n) (c.capacity.ensures ∙ sym c.clear.ensures.room) (leb-true most_places c.capacity.result (roomy d).0);
      inners_room = subst (λ (n : ℕ). most_inners ≤ n) (c.capacity-2.ensures ∙ sym c.clear-2.ensures.room) (leb-true most_inners c.capacity-2.result (roomy d).1);
    }

pub returns : goal.returns
returns c =
    let p = c.fill.ensures.passed in
    let w = witness_at (shape_in c.args.table) c.args.bytes.now in
    record {
      answer =
          p
          ∙ goes _ _ _ (c.in_ok-memory_test.ensures ∙ ap (λ (n : ℕ). witness_memory_says n c.capacity-2.result) c.capacity.ensures ∙ ap (witness_memory_says (room c.args.places.now)) c.capacity-2.ensures)
          c.in_ok-tested.ensures;
      memory = subst (AdmittedInto w c.args.places.now c.fill.new.places c.args.inners.now c.fill.new.inners) (sym p) (
        (c.fill.ensures.places, c.fill.ensures.places_behind ∙ ap (drop (length (held c.fill.new.places))) c.clear.ensures.behind),
        (c.fill.ensures.inners, c.fill.ensures.inners_behind ∙ ap (drop (length (held c.fill.new.inners))) c.clear-2.ensures.behind),
      );
    }
