use Rattle.std.proofs.Common.{◌≡◌, ◌<◌, List, length, IfSome, ap, ◌∙◌, sym, subst, rules}
use Rattle.rows.specs.declared.written.WrittenRow.{WrittenRow}
use Rattle.std.specs.List.{position}
use Rattle.records.specs.Bounded.{listed, plain_list}
use Rattle.records.specs.Records.{row_of}
use Rattle.obligations.specs.Unmet.{FirstUnmet}
use Rattle.obligations.proofs.UnmetRows.{fails, first_unmet_found}
use Rattle.obligations.proofs.meeting.first_unmet.Goals as goal

pub returns : goal.returns
returns g c =
    let p = c.args.point.now.values in
    let rows = listed c.args.rows.now in
    -- the place as another type's number is the same
    let s : c.map.result ≡ c.place_of_unmet.result = search rules in
    subst (FirstUnmet p (plain_list row_of c.args.rows.now)) (sym s)
    (first_unmet_found p rows c.place_of_unmet.result (c.place_of_unmet.ensures.value ∙ ap (position (fails p rows)) c.as_slice.ensures)
    (subst (λ (xs : List WrittenRow). IfSome c.place_of_unmet.result (λ i. i < length xs)) c.as_slice.ensures c.place_of_unmet.ensures.bound))
