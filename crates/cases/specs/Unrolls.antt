-- What unroll promises, as a law over the plan's run: the states that it writes are those of the run, and it goes on just
-- as long as the plan's steps stay within the limit.
use Rattle.std.specs.Prelude.{◌≡◌, ℕ, suc, ◌≤◌, [], length, take, ℤ, pos, neg_ℤ, ◌≤ℤ◌, slice_index_or}
use Rattle.std.specs.List.{AllByRecursion}
use Rattle.rows.specs.declared.limits.Limit.TheVariants.{StateValue}
use Rattle.rows.specs.Limits.{magnitude_of}
use Rattle.records.specs.Records.{TableData, WitnessData}
use Rattle.semantics.specs.Plans.{plan_run}
use Rattle.semantics.specs.Runs.{Step, step_count, state_after, EachStep}
use Rattle.cases.specs.Calls.{Unrolled}
use Rattle.cases.specs.Model.{Present}
use Rattle.cases.specs.Told.{unrolled_from}

-- a number that a state may have
pub record InRange (z : ℤ) : Type 0 where
  pub least : neg_ℤ (pos (magnitude_of StateValue)) ≤ℤ z
  pub most : z ≤ℤ pos (magnitude_of StateValue)

-- a step whose choices and new values all are
pub record StepInRange (s : Step) : Type 0 where
  pub choices : AllByRecursion InRange s.choices
  pub values : AllByRecursion InRange s.after

-- the plan makes j steps, and each stays within the limit
pub record StaysFor (table : TableData) (witness : WitnessData) (p : Present) (j : ℕ) : Type 0 where
  pub made : step_count (plan_run table witness p.place p.state j) ≡ j
  pub stays : EachStep StepInRange (plan_run table witness p.place p.state j)

-- the count is the greatest number up to n of steps for which the plan stays within the limit; the states are the present
-- one and that after each of these steps, the table's values of each
pub record AsPlanned (table : TableData) (witness : WitnessData) (n : ℕ) (p : Present) (u : Unrolled) : Type 0 where
  pub at_most : u.count ≤ n
  pub stays : StaysFor table witness p u.count
  pub greatest : (j : ℕ) → j ≤ n → StaysFor table witness p j → j ≤ u.count
  pub state_count : length u.states ≡ suc u.count
  pub states_are : (k : ℕ) → k ≤ u.count → slice_index_or u.states k [] ≡ take table.heading.values (state_after p.state (plan_run table witness p.place p.state k))

abbrev pub UnrollsAsPlanned : Type 0
UnrollsAsPlanned = (table : TableData) (witness : WitnessData) (n : ℕ) (p : Present) → AsPlanned table witness n p (unrolled_from table witness n p)
