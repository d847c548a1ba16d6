-- What an accepted verdict promises of runs: in the model that calls lead to all obligations hold, so the plan's runs go on
-- without end from the present place and state, and every run that keeps the restrictions is closed.
use Rattle.std.proofs.Common.{◌≡◌, ℕ, List, Ok, sym, ◌∙◌, subst}
use Rattle.rows.specs.declared.numbers.Numbers.{Numbers}
use Rattle.records.specs.Records.{TableData, WitnessData}
use Rattle.semantics.specs.declared.obligation.Obligation.{Obligation}
use Rattle.semantics.specs.Enumerated.{Posed, posed}
use Rattle.semantics.specs.Laws.{Fitting, Within, PlanRun}
use Rattle.semantics.specs.Obligations.{Poses, Follows, AllHold}
use Rattle.semantics.specs.Plans.{plan_run}
use Rattle.semantics.specs.Runs.{Run, RunOn, EachStep, IsInner, Keeps}
use Rattle.semantics.proofs.Listing.{obligations_agree_lem}
use Rattle.semantics.proofs.Lookups.{found_listed}
use Rattle.semantics.proofs.Members.{same_some}
use Rattle.semantics.proofs.PlanRuns.{plans_run_lem, runs_closed}
use Rattle.cases.specs.Calls.{Call}
use Rattle.cases.specs.Model.{Making, Model}
use Rattle.cases.specs.Told.{verdict_told}
use Rattle.cases.specs.Worked.{worked}
use Rattle.cases.specs.Promises.{Placed, Prolonged, Endless, Closed}
use Rattle.cases.proofs.Accepted.{Accepted, accepted_parts}
use Rattle.cases.proofs.Invariants.{Sound, fitting, traced, proven, worked_sound}
use Rattle.cases.proofs.ShownTrue.{Proven}
use Rattle.cases.proofs.Standing.{AlwaysFits}
use Rattle.cases.proofs.Traces.{Traced}

-- a witness that calls lead to fits its table
pub always_fits : (making : Making) → AlwaysFits making
always_fits making calls table witness t w = fitting (worked making calls) (worked_sound making calls) table t witness w

-- where every obligation was shown, all hold
module _ (table : TableData) (witness : WitnessData) (fit : Fitting table witness) where
  -- an obligation is posed with one goal and one list of facts
  proven_follows : (o : Obligation) → Proven table witness o → (facts : List Numbers) (goal : Numbers) → Poses table witness o facts goal → Follows facts goal
  proven_follows o p facts goal posed' =
      let asked = (obligations_agree_lem table witness fit).asked o in
      let e : posed p.facts p.goal ≡ posed facts goal = same_some (posed p.facts p.goal) (posed facts goal) (sym (asked p.facts p.goal p.posed) ∙ asked facts goal posed') in
      subst (λ (q : Posed). Follows q.facts q.goal) e p.follows

module _ (m : Model) (s : Sound m) (a : Accepted m) where
  abbrev fit : Fitting a.table a.witness
  fit = fitting m s a.table a.has_table a.witness a.has_witness

  trace : Traced a.table a.present
  trace = traced m s a.table a.has_table a.present a.has_present

  all_hold : AllHold a.table a.witness
  all_hold o facts goal p =
      let shown = a.shown o ((obligations_agree_lem a.table a.witness fit).listed o (facts, goal, p)) in
      proven_follows a.table a.witness fit o (proven m s a.table a.has_table a.witness a.has_witness o shown) facts goal p

  within : Within a.table a.witness a.present.place a.present.state
  within =
      record {
        at = a.at;
        listed = found_listed a.table a.witness fit a.present.place a.at a.listed;
        is_state = trace.is_state;
        holds = a.holds;
      }

  abbrev placed : Placed m
  placed = record { table = a.table; witness = a.witness; present = a.present; has_table = a.has_table; has_witness = a.has_witness; has_present = a.has_present }

  plan_run-is : (n : ℕ) → PlanRun a.table a.witness a.present.place a.present.state n
  plan_run-is n = plans_run_lem a.table a.witness fit all_hold a.present.place a.present.state within n

  pub accepted_endless : Endless m
  accepted_endless = (
    placed,
    record {
      initial = trace.initial;
      is_initial = trace.is_initial;
      trace = trace.trace;
      trace_runs = trace.trace_runs;
      reaches_place = trace.reaches_place;
      reaches_state = trace.reaches_state;
      on = plan_run a.table a.witness a.present.place a.present.state;
      on_runs = λ n. (plan_run-is n).is_run;
      on_counts = λ n. (plan_run-is n).counted;
      on_inner = λ n. (plan_run-is n).inner;
      on_further = λ n. ((plan_run-is n).next, (plan_run-is n).prolonged);
    },
  )

  prolonged : (run : Run) → RunOn a.table a.present.place a.present.state run → Keeps a.witness run → EachStep (IsInner a.witness) run × Prolonged a.table a.witness a.present run
  prolonged run on keeps =
      let c = runs_closed a.table a.witness fit all_hold a.present.place a.present.state within run on keeps in (
        c.inner,
        record {
          step = c.more.step;
          inner = c.more.inner;
          runs = (on, c.more.made, c.more.leaves, c.more.begins);
          keeps = (keeps, c.more.keeps);
        },
      )

  pub accepted_closed : Closed m
  accepted_closed = (placed, prolonged)

-- after any list of calls
pub endless : (making : Making) (calls : List Call) → verdict_told (worked making calls) ≡ Ok tt → Endless (worked making calls)
endless making calls e = accepted_endless (worked making calls) (worked_sound making calls) (accepted_parts (worked making calls) e)

pub closed : (making : Making) (calls : List Call) → verdict_told (worked making calls) ≡ Ok tt → Closed (worked making calls)
closed making calls e = accepted_closed (worked making calls) (worked_sound making calls) (accepted_parts (worked making calls) e)
