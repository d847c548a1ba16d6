use Rattle.std.proofs.Common.{◌≡◌, Err, sym, ap, ◌∙◌}
use Rattle.std.proofs.lemmas.Result.{err_from_is_err_and}
use Rattle.records.specs.Held.{room}
use Rattle.records.specs.Limits.{most_places, most_inners}
use Rattle.sequences.specs.TableGiven.{shape_in, transitions_in}
use Rattle.formats.specs.Witnesses.{witness_at, witness_says}
use Rattle.formats.proofs.PieceTests.{given, given_fault}
use Rattle.tables.proofs.Rooms.{enough, admit_roomy}
use Rattle.tables.proofs.Shortly.{witness_short_lem}
use Rattle.tables.proofs.witness.for_table.Goals.{After-read_witness}
use Rattle.tables.proofs.witness.for_table.Goals as goal

-- the registers have room, so the bytes alone decide
decided : (c : After-read_witness) → c.read_witness.result ≡ witness_says (transitions_in c.args.table) (shape_in c.args.table) c.args.bytes.now
decided c =
    c.read_witness.ensures.answer
    ∙ admit_roomy (room c.new-places.result) (room c.new-inners.result) (transitions_in c.args.table) (shape_in c.args.table) c.args.bytes.now
    (enough c.new-places.result most_places c.place-place_memory.result c.new-places.ensures.held c.new-places.ensures.behind)
    (enough c.new-inners.result most_inners c.inner-inner_memory.result c.new-inners.ensures.held c.new-inners.ensures.behind)

pub returns-in_err-read_witness : goal.returns-in_err-read_witness
returns-in_err-read_witness c =
    let p = err_from_is_err_and c.from_residual.result c.from_residual.ensures.1 in
    p.1 ∙ ap Err p.2
    ∙ given_fault _ _ _ (sym c.in_err-read_witness.was ∙ decided (goal.at.returns-in_err-read_witness c).After-read_witness)

pub returns : goal.returns
returns c =
    given _ _ _ (sym c.in_ok-read_witness.was ∙ decided (goal.at.returns c).After-read_witness)
    (c.short.ensures ∙ witness_short_lem c.read_witness.new.places c.read_witness.new.inners (witness_at (shape_in c.args.table) c.args.bytes.now)
    c.in_ok-read_witness.ensures.memory.0.0 c.in_ok-read_witness.ensures.memory.1.0)
