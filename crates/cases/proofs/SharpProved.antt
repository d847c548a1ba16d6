-- The tables, witnesses and calls of which a promise fails: each failure is led to a contradiction.
use Rattle.std.proofs.Common.{◌≡◌, ℕ, zero, suc, List, [], ◌∷◌, length, get_or, replicate, ℤ, pos, negsuc, ◌+ℤ◌, ◌*ℤ◌, ◌≤ℤ◌, sym, refl, ap, ◌∙◌, subst, inl, inr, arith}
use lib.IntN.{zero-*ℤ, +ℤ_idl, +ℤ_idr}
use borrow.Author.Differences.{up}
use Rattle.std.proofs.lemmas.Int.{ints}
use Rattle.std.proofs.lemmas.Bool.{false≢true}
use Rattle.rows.specs.declared.numbers.Numbers.{Numbers}
use Rattle.rows.specs.Shapes.{MeetsAll, dot}
use Rattle.records.specs.Limits.{most_values, most_choices}
use Rattle.records.specs.Records.{TransitionData, InnerData}
use Rattle.semantics.specs.declared.obligation.Obligation.TheVariants.{Consecution}
use Rattle.semantics.specs.Goals.{impossible}
use Rattle.semantics.specs.Runs.{Member, Step, IsStep, Run, still, further, Initial, RunOn, EachStep, IsInner, step_count, place_after, state_after, value_at, updated}
use Rattle.semantics.specs.Vectors.{Filled, Holds, point_of, at_rest, no_choices}
use Rattle.semantics.proofs.Points.{point_value, padded_filled}
use Rattle.semantics.proofs.StateRows.{never_met}
use Rattle.cases.specs.Dossiers.{dossier_making}
use Rattle.cases.specs.Promises.{EndlessFrom, ClosedFrom, StandsShown}
use Rattle.cases.specs.Sharp.{the_choice, unchanged, less_one, nought, table_with, inner_by, inners_are, at, place_with, round, another, elsewhere, round_inner, both_inner, setting, lowering, countdown, InnerRun, shown_once, shown_and_cleared, SharpPromises}
use Rattle.cases.proofs.EndlessRuns.{always_fits}
use Rattle.cases.proofs.SamplesWorked.{computing}
use Rattle.cases.proofs.Standing.{shown_stands, stands_shown}

-- the sum of a row over the first value alone, at a state and choices
first_dot : (c : ℤ) (point : List ℤ) → dot (c ∷ replicate 7 (pos 0)) point ≡ c *ℤ get_or point 0 (pos 0)
unfolding dot
first_dot c point = simp (zero-*ℤ, +ℤ_idr, +ℤ_idl)

first_sum : (c : ℤ) (state choices : List ℤ) → length state ≡ most_values → dot (c ∷ replicate 7 (pos 0)) (point_of state choices) ≡ c *ℤ get_or state 0 (pos 0)
first_sum c state choices e = first_dot c (point_of state choices) ∙ ap (λ (z : ℤ). c *ℤ z) (point_value state choices 0 e (omega arith))

-- no steps at all
no_steps : (run : Run) → step_count run ≡ 0 → run ≡ still
no_steps still e = refl
no_steps (further run s) e = absurd (omega arith)

-- a step by a transition that changes nothing, and that tables with the transition can make it
abbrev stay : TransitionData → Step
stay t = record { taken = t; choices = no_choices; before = (at (pos 0)).state; after = (at (pos 0)).state }

none_chosen : Filled most_choices 1 no_choices
none_chosen = padded_filled most_choices 1 (pos 0 ∷ []) refl

round_made : (initial : List Numbers) (more : List TransitionData) → IsStep (table_with initial (round ∷ more)) (stay round)
unfolding dot
round_made initial more = record { known = inl refl; guard = tt; chosen = none_chosen; result = refl }

another_made : IsStep (table_with nought (round ∷ another ∷ [])) (stay another)
unfolding dot
another_made = record { known = inr (inl refl); guard = tt; chosen = none_chosen; result = refl }

-- going round
abbrev rounds : ℕ → Run
rounds zero = still
rounds (suc n) = further (rounds n) (stay round)

rounds_end : (n : ℕ) → (place_after 1 (rounds n) ≡ 1) × (state_after (at (pos 0)).state (rounds n) ≡ (at (pos 0)).state)
rounds_end zero = (refl, refl)
rounds_end (suc n) = (refl, refl)

rounds_run : (n : ℕ) → RunOn (table_with nought (round ∷ [])) 1 (at (pos 0)).state (rounds n)
rounds_run zero = tt
rounds_run (suc n) = (rounds_run n, round_made nought [], sym (rounds_end n).0, sym (rounds_end n).1)

rounds_counted : (n : ℕ) → step_count (rounds n) ≡ n
rounds_counted zero = refl
rounds_counted (suc n) = ap suc (rounds_counted n)

rounds_inner : (n : ℕ) → EachStep (IsInner round_inner) (rounds n)
rounds_inner zero = tt
rounds_inner (suc n) = (rounds_inner n, (inner_by [] 1, (inl refl, refl)))

goes_round : EndlessFrom (table_with nought (round ∷ [])) round_inner (at (pos 0))
unfolding dot
goes_round =
    record {
      initial = (at (pos 0)).state;
      is_initial = (padded_filled most_values 1 (pos 0 ∷ []) refl, (omega (arith, ints), (omega (arith, ints), tt)));
      trace = still;
      trace_runs = tt;
      reaches_place = refl;
      reaches_state = refl;
      on = rounds;
      on_runs = rounds_run;
      on_counts = rounds_counted;
      on_inner = rounds_inner;
      on_further = λ n. (stay round, refl);
    }

-- no state is initial
no_beginning : EndlessFrom (table_with (impossible ∷ []) (round ∷ [])) round_inner (at (pos 0)) → ⊥
no_beginning e = never_met (at_rest e.initial) e.is_initial.1.0

-- no transition is inner
no_inner_step : (run : Run) → step_count run ≡ 1 → EachStep (IsInner (inners_are [])) run → ⊥
no_inner_step still e h = absurd (omega arith)
no_inner_step (further run s) e h = h.1.1.0

none_inner : EndlessFrom (table_with nought (round ∷ [])) (inners_are []) (at (pos 0)) → ⊥
none_inner e = no_inner_step (e.on 1) (e.on_counts 1) (e.on_inner 1)

-- going round keeps a first value of 0
abbrev AtNought : List ℤ → Type 0
AtNought state = (length state ≡ most_values) × (get_or state 0 (pos 0) ≡ pos 0)

first_kept : (state choices : List ℤ) → length state ≡ most_values → value_at (point_of state choices) unchanged ≡ get_or state 0 (pos 0)
first_kept state choices l = let d = first_sum (pos 1) state choices l in omega (arith, ints, d)

round_result : (t : TransitionData) (state choices : List ℤ) → Member t (round ∷ []) → AtNought state → AtNought (updated t (point_of state choices))
round_result t state choices (inl e) a = subst (λ x. AtNought (updated x (point_of state choices))) e (refl, first_kept state choices a.0 ∙ a.1)
round_result t state choices (inr e) a = absurd e

stays_nought : (run : Run) (place : ℕ) (state : List ℤ) → AtNought state → RunOn (table_with nought (round ∷ [])) place state run → AtNought (state_after state run)
stays_nought still place state a r = a
stays_nought (further run s) place state a r =
    subst AtNought (sym r.1.result) (round_result s.taken s.before s.choices r.1.known (subst AtNought (sym r.3) (stays_nought run place state a r.0)))

initial_nought : (state : List ℤ) → Initial (table_with nought (round ∷ [])) state → AtNought state
initial_nought state i =
    let a = first_sum (pos 1) state no_choices i.0.sized in
    let b = first_sum (negsuc 0) state no_choices i.0.sized in
    let g = i.1.0 in
    let h = i.1.1.0 in
    (i.0.sized, omega (arith, ints, a, b, g, h))

unreached : EndlessFrom (table_with nought (round ∷ [])) round_inner (at (pos 1)) → ⊥
unreached e =
    let z = (stays_nought e.trace 1 e.initial (initial_nought e.initial e.is_initial) e.trace_runs).1 in
    let k : pos 1 ≡ pos 0 = ap (λ (x : List ℤ). get_or x 0 (pos 0)) (sym e.reaches_state) ∙ z in
    absurd (omega (arith, ints, k))

-- going round stays at its place
round_target : (t : TransitionData) → Member t (round ∷ elsewhere ∷ []) → t.start ≡ 1 → t.target ≡ 1
round_target t (inl e) s = ap (λ x. x.target) (sym e)
round_target t (inr (inl e)) s = let k : 2 ≡ 1 = ap (λ x. x.start) e ∙ s in absurd (omega (arith, k))
round_target t (inr (inr e)) s = absurd e

stays_there : (run : Run) (state : List ℤ) → RunOn (table_with nought (round ∷ elsewhere ∷ [])) 1 state run → place_after 1 run ≡ 1
stays_there still state r = refl
stays_there (further run s) state r = round_target s.taken r.1.known (r.2 ∙ stays_there run state r.0)

other_place : EndlessFrom (table_with nought (round ∷ elsewhere ∷ [])) both_inner (place_with 2 (pos 0)) → ⊥
other_place e =
    let k : 2 ≡ 1 = sym e.reaches_place ∙ stays_there e.trace e.initial e.trace_runs in
    absurd (omega (arith, k))

-- a step by another transition, of which nothing is asked
another_not_inner : IsInner round_inner (stay another) → ⊥
another_not_inner (i, (inl e, n)) = let k : 1 ≡ 2 = ap (λ x. x.number) e ∙ n in absurd (omega (arith, k))
another_not_inner (i, (inr m, n)) = absurd m

other_taken : ClosedFrom (table_with nought (round ∷ another ∷ [])) round_inner (at (pos 0)) → ⊥
other_taken c =
    another_not_inner (c (further still (stay another)) (tt, another_made, refl, refl) (tt, λ i d. absurd (another_not_inner (i, d)))).0.1

-- no transition at all
halts : ClosedFrom (table_with nought []) round_inner (at (pos 0)) → ⊥
halts c = (c still tt tt).1.runs.1.known

-- no step by the one inner transition meets its restriction
only_restricted : (s : Step) (i : InnerData) → Member i (inner_by (impossible ∷ []) 1 ∷ []) → MeetsAll (point_of s.before s.choices) i.restrictions → ⊥
only_restricted s i (inl e) m = never_met (point_of s.before s.choices) (subst (λ x. MeetsAll (point_of s.before s.choices) x.restrictions) (sym e) m).0
only_restricted s i (inr e) m = absurd e

over_restricted : ClosedFrom (table_with nought (round ∷ [])) (inners_are (inner_by (impossible ∷ []) 1 ∷ [])) (at (pos 0)) → ⊥
over_restricted c =
    let more = (c still tt tt).1 in
    let i = more.inner in
    only_restricted more.step i.0 i.1.0 (more.keeps.1 i.0 i.1)

-- the countdown's first step, to any number, and one step down
abbrev choose : ℕ → Step
choose j = record { taken = setting; choices = pos j ∷ pos 0 ∷ []; before = (at (pos 0)).state; after = (at (pos j)).state }

abbrev lower : ℕ → Step
lower j = record { taken = lowering; choices = no_choices; before = (at (pos (suc j))).state; after = (at (pos j)).state }

choose_made : (j : ℕ) → IsStep countdown (choose j)
unfolding dot
choose_made j = record { known = inl refl; guard = tt; chosen = padded_filled most_choices 1 (pos j ∷ []) refl; result = ap (λ (z : ℤ). z ∷ replicate 5 (pos 0)) chosen }
  where
    chosen : pos j ≡ value_at (point_of (at (pos 0)).state (pos j ∷ pos 0 ∷ [])) the_choice
    chosen = omega (arith, ints)

lower_made : (j : ℕ) → IsStep countdown (lower j)
unfolding dot
lower_made j = record { known = inr (inl refl); guard = (omega (arith, ints), tt); chosen = none_chosen; result = ap (λ (z : ℤ). z ∷ replicate 5 (pos 0)) less }
  where
    less : pos j ≡ value_at (at_rest (at (pos (suc j))).state) less_one
    less = omega (arith, ints)

-- the run to j + k, and k steps down to j
abbrev falling : ℕ → ℕ → Run
falling j zero = further still (choose j)
falling j (suc k) = further (falling (suc j) k) (lower j)

falling_end : (j k : ℕ) → (place_after 1 (falling j k) ≡ 2) × (state_after (at (pos 0)).state (falling j k) ≡ (at (pos j)).state)
falling_end j zero = (refl, refl)
falling_end j (suc k) = (refl, refl)

falling_runs : (j k : ℕ) → RunOn countdown 1 (at (pos 0)).state (falling j k)
falling_runs j zero = (tt, choose_made j, refl, refl)
falling_runs j (suc k) = (falling_runs (suc j) k, lower_made j, sym (falling_end (suc j) k).0, sym (falling_end (suc j) k).1)

falling_counted : (j k : ℕ) → step_count (falling j k) ≡ suc k
falling_counted j zero = refl
falling_counted j (suc k) = ap suc (falling_counted (suc j) k)

falling_inner : (j k : ℕ) → EachStep (IsInner both_inner) (falling j k)
falling_inner j zero = (tt, (inner_by [] 1, (inl refl, refl)))
falling_inner j (suc k) = (falling_inner (suc j) k, (inner_by [] 2, (inr (inl refl), refl)))

any_number : (n : ℕ) → InnerRun countdown both_inner (at (pos 0)) n
any_number zero = record { run = still; runs = tt; counted = refl; inner = tt }
any_number (suc k) = record { run = falling 0 k; runs = falling_runs 0 k; counted = falling_counted 0 k; inner = falling_inner 0 k }

-- any first step leads to place 2; a step from there is one down, from a positive value
pub record Lowered (s : Step) : Type 0 where
  pub target : s.taken.target ≡ 2
  pub sized : length s.after ≡ most_values
  pub positive : pos 1 ≤ℤ get_or s.before 0 (pos 0)
  pub less : get_or s.after 0 (pos 0) +ℤ pos 1 ≡ get_or s.before 0 (pos 0)

chosen_first : (t : TransitionData) (point : List ℤ) → Member t countdown.transitions → t.start ≡ 1 → (t.target ≡ 2) × (length (updated t point) ≡ most_values)
chosen_first t point (inl e) s = subst (λ x. (x.target ≡ 2) × (length (updated x point) ≡ most_values)) e (refl, refl)
chosen_first t point (inr (inl e)) s = let k : 2 ≡ 1 = ap (λ x. x.start) e ∙ s in absurd (omega (arith, k))
chosen_first t point (inr (inr e)) s = absurd e

is_lowering : (t : TransitionData) → Member t countdown.transitions → t.start ≡ 2 → lowering ≡ t
is_lowering t (inl e) s = let k : 1 ≡ 2 = ap (λ x. x.start) e ∙ s in absurd (omega (arith, k))
is_lowering t (inr (inl e)) s = e
is_lowering t (inr (inr e)) s = absurd e

lowered : (s : Step) → IsStep countdown s → s.taken.start ≡ 2 → length s.before ≡ most_values → Lowered s
lowered s h at-two l =
    let e = is_lowering s.taken h.known at-two in
    let r : s.after ≡ updated lowering (point_of s.before s.choices) = h.result ∙ ap (λ x. updated x (point_of s.before s.choices)) (sym e) in
    let g : dot (negsuc 0 ∷ replicate 7 (pos 0)) (at_rest s.before) ≤ℤ negsuc 0 = (subst (λ x. Holds s.before x.guard) (sym e) h.guard).0 in
    let f = first_sum (negsuc 0) s.before no_choices l in
    let d = first_sum (pos 1) s.before s.choices l in
    record {
      target = ap (λ x. x.target) (sym e);
      sized = ap (λ (x : List ℤ). length x) r;
      positive = omega (arith, ints, f, g);
      less = ap (λ (x : List ℤ). get_or x 0 (pos 0) +ℤ pos 1) r ∙ omega (arith, ints, d);
    }

-- where the run goes on for ever, it has made n steps down after n + 1 steps
module _ (e : EndlessFrom countdown both_inner (at (pos 0))) where
  abbrev value : ℕ → ℤ
  value n = get_or (state_after (at (pos 0)).state (e.on n)) 0 (pos 0)

  step_on : (n : ℕ) → RunOn countdown 1 (at (pos 0)).state (further (e.on n) (e.on_further n).0)
  step_on n = subst (RunOn countdown 1 (at (pos 0)).state) (e.on_further n).1 (e.on_runs (suc n))

  pub record Down (n : ℕ) : Type 0 where
    pub place : place_after 1 (e.on (suc n)) ≡ 2
    pub sized : length (state_after (at (pos 0)).state (e.on (suc n))) ≡ most_values
    pub down : value (suc n) +ℤ pos n ≡ value 1

  next : (n : ℕ) → Down n → Lowered (e.on_further (suc n)).0
  next n d =
      let r = step_on (suc n) in
      lowered (e.on_further (suc n)).0 r.1 (r.2 ∙ d.place) (ap (λ (x : List ℤ). length x) r.3 ∙ d.sized)

  goes_down : (n : ℕ) → Down n
  goes_down zero =
      let s = (e.on_further 0).0 in
      let r = step_on 0 in
      let k = no_steps (e.on 0) (e.on_counts 0) in
      let c = chosen_first s.taken (point_of s.before s.choices) r.1.known (r.2 ∙ ap (place_after 1) k) in
      let f = (e.on_further 0).1 in
      record {
        place = ap (place_after 1) f ∙ c.0;
        sized = ap (λ x. length (state_after (at (pos 0)).state x)) f ∙ ap (λ (x : List ℤ). length x) r.1.result ∙ c.1;
        down = +ℤ_idr (value 1);
      }
  goes_down (suc n) =
      let d = goes_down n in
      let w = next n d in
      let f = (e.on_further (suc n)).1 in
      let a = ap (λ x. get_or (state_after (at (pos 0)).state x) 0 (pos 0)) f in
      let b = ap (λ (x : List ℤ). get_or x 0 (pos 0)) (step_on (suc n)).3 in
      record {
        place = ap (place_after 1) f ∙ w.target;
        sized = ap (λ x. length (state_after (at (pos 0)).state x)) f ∙ w.sized;
        down = omega (arith, ints, a, b, d.down, w.less);
      }

  none_endless : ⊥
  none_endless =
      let n = up (value 1) in
      let d = goes_down n in
      let w = (next n d).positive in
      let b = ap (λ (x : List ℤ). get_or x 0 (pos 0)) (step_on (suc n)).3 in
      omega (arith, ints, w, b, d.down)

-- the marks that calls lead to
stands : StandsShown dossier_making shown_once (Consecution 1 0)
unfolding computing
stands = shown_stands dossier_making (always_fits dossier_making) shown_once (Consecution 1 0) refl

cleared : StandsShown dossier_making shown_and_cleared (Consecution 1 0) → ⊥
unfolding computing
cleared s = false≢true (stands_shown dossier_making (always_fits dossier_making) shown_and_cleared (Consecution 1 0) s)

pub promises_sharp : SharpPromises
promises_sharp =
    record {
      goes_round = goes_round;
      no_beginning = no_beginning;
      unreached = unreached;
      other_place = other_place;
      none_inner = none_inner;
      any_number = any_number;
      none_endless = none_endless;
      other_taken = other_taken;
      halts = halts;
      over_restricted = over_restricted;
      stands = stands;
      cleared = cleared;
    }
