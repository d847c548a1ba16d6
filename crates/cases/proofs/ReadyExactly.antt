-- A verdict is accepted exactly where the calls are ready for it: there is a present state at a listed place, it meets the
-- place's condition, and every obligation stands shown.
use Rattle.std.proofs.Common.{◌≡◌, List, Ok}
use Rattle.semantics.specs.Laws.{Fitting}
use Rattle.semantics.proofs.Listing.{obligations_agree_lem}
use Rattle.semantics.proofs.Lookups.{listed_found, found_listed}
use Rattle.cases.specs.Calls.{Call}
use Rattle.cases.specs.Model.{Making}
use Rattle.cases.specs.Told.{verdict_told}
use Rattle.cases.specs.Worked.{worked}
use Rattle.cases.specs.Promises.{Ready}
use Rattle.cases.proofs.Accepted.{Accepted, accepted_parts, accepted_from}
use Rattle.cases.proofs.Standing.{AlwaysFits, shown_stands, stands_shown}

module _ (making : Making) (fits : AlwaysFits making) (calls : List Call) where
  -- the parts of an accepted verdict, in the words of the relations
  parts_ready : Accepted (worked making calls) → Ready making calls
  parts_ready a =
      let fit : Fitting a.table a.witness = fits calls a.table a.witness a.has_table a.has_witness in
      record {
        has = record { table = a.table; witness = a.witness; present = a.present; has_table = a.has_table; has_witness = a.has_witness; has_present = a.has_present };
        at = a.at;
        listed = found_listed a.table a.witness fit a.present.place a.at a.listed;
        holds = a.holds;
        shown = λ o x. shown_stands making fits calls o (a.shown o ((obligations_agree_lem a.table a.witness fit).listed o x));
      }

  -- and back
  ready_parts : Ready making calls → Accepted (worked making calls)
  ready_parts r =
      let h = r.has in
      let fit : Fitting h.table h.witness = fits calls h.table h.witness h.has_table h.has_witness in
      record {
        table = h.table;
        witness = h.witness;
        present = h.present;
        at = r.at;
        has_table = h.has_table;
        has_witness = h.has_witness;
        has_present = h.has_present;
        listed = listed_found h.table h.witness fit h.present.place r.at r.listed;
        holds = r.holds;
        shown = λ o m. stands_shown making fits calls o (r.shown o ((obligations_agree_lem h.table h.witness fit).lists o m));
      }

  pub only_ready : verdict_told (worked making calls) ≡ Ok tt → Ready making calls
  only_ready e = parts_ready (accepted_parts (worked making calls) e)

  pub ready_accepted : Ready making calls → verdict_told (worked making calls) ≡ Ok tt
  ready_accepted r = accepted_from (worked making calls) (ready_parts r)
