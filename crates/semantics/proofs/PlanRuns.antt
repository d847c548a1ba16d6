-- Runs from a place whose condition the state meets. The plan makes as many steps as one likes: each of its runs ends
-- where the condition holds, so there is one step more. And so does every other run that keeps the restrictions.
use Rattle.std.proofs.Common.{◌≡◌, ℕ, zero, suc, List, ℤ, sym, refl, ap, subst, subst₂}
use Rattle.records.specs.Records.{TableData, WitnessData}
use Rattle.semantics.specs.Laws.{Within, PlanStep, Sustained, PlansRun, RunsClosed}
use Rattle.semantics.specs.Plans.{plan_run, further_by}
use Rattle.semantics.specs.Runs.{Run, still, further, step_count, place_after, state_after, RunOn, EachStep, IsInner, Keeps}
use Rattle.semantics.proofs.Sustaining.{obligations_sustain_lem}

-- a run of n inner steps that keeps the restrictions and ends where the condition holds
record Along (table : TableData) (witness : WitnessData) (place : ℕ) (state : List ℤ) (n : ℕ) (run : Run) : Type 0 where
  is_run : RunOn table place state run
  counted : step_count run ≡ n
  inner : EachStep (IsInner witness) run
  keeps : Keeps witness run
  ends : Within table witness (place_after place run) (state_after state run)

module _ (table : TableData) (witness : WitnessData) (sustained : Sustained table witness) (place : ℕ) (state : List ℤ) where
  -- the plan's step at the end of a run
  next_step : (n : ℕ) (run : Run) → Along table witness place state n run → PlanStep table witness (place_after place run) (state_after state run)
  next_step n run a = sustained.planned (place_after place run) (state_after state run) a.ends

  one_more : (n : ℕ) (run : Run) (a : Along table witness place state n run) → Along table witness place state (suc n) (further run (next_step n run a).step)
  one_more n run a =
      let p = next_step n run a in
      let from = subst₂ (Within table witness) (sym p.leaves) (sym p.begins) a.ends in
      record {
        is_run = (a.is_run, p.made, p.leaves, p.begins);
        counted = ap suc a.counted;
        inner = (a.inner, p.inner);
        keeps = (a.keeps, p.keeps);
        ends = sustained.carried p.step p.made from p.inner p.keeps;
      }

  prolonged_by : (n : ℕ) (a : Along table witness place state n (plan_run table witness place state n)) → plan_run table witness place state (suc n) ≡ further (plan_run table witness place state n) (next_step n _ a).step
  unfolding plan_run
  prolonged_by n a = ap (further_by (plan_run table witness place state n)) (next_step n (plan_run table witness place state n) a).found

  along : Within table witness place state → (n : ℕ) → Along table witness place state n (plan_run table witness place state n)
  unfolding plan_run
  along within zero = record { is_run = tt; counted = refl; inner = tt; keeps = tt; ends = within }
  along within (suc n) =
      let a = along within n in
      subst (Along table witness place state (suc n)) (sym (prolonged_by n a)) (one_more n (plan_run table witness place state n) a)

pub plans_run_lem : PlansRun
plans_run_lem table witness fit hold place state within n =
    let sustained = obligations_sustain_lem table witness fit hold in
    let a = along table witness sustained place state within n in
    record {
      is_run = a.is_run;
      counted = a.counted;
      inner = a.inner;
      keeps = a.keeps;
      next = (next_step table witness sustained place state n (plan_run table witness place state n) a).step;
      prolonged = prolonged_by table witness sustained place state n a;
    }

-- the steps of a run that keeps the restrictions are inner, and its end is within
module _ (table : TableData) (witness : WitnessData) (sustained : Sustained table witness) (place : ℕ) (state : List ℤ) (within : Within table witness place state) where
  kept_ends : (run : Run) → RunOn table place state run → Keeps witness run → EachStep (IsInner witness) run × Within table witness (place_after place run) (state_after state run)
  kept_ends still on keeps = (tt, within)
  kept_ends (further run s) on keeps =
      let before = kept_ends run on.0 keeps.0 in
      let from = subst₂ (Within table witness) (sym on.2) (sym on.3) before.1 in
      let inner = sustained.closed s on.1 from in
      ((before.0, inner), sustained.carried s on.1 from inner keeps.1)

pub runs_closed : RunsClosed
runs_closed table witness fit hold place state within run on keeps =
    let sustained = obligations_sustain_lem table witness fit hold in
    let r = kept_ends table witness sustained place state within run on keeps in
    record { inner = r.0; ends = r.1; more = sustained.planned (place_after place run) (state_after state run) r.1 }
