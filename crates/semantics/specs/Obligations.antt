-- The obligations of a table and a witness, as a relation: which there are, with which facts, in their order, and with
-- which goal. Rows and entries count from 0.
use Rattle.std.specs.Prelude.{◌≡◌, ℕ, List, [], ◌∷◌, ◌++◌, map, length, take, ℤ, Some}
use Rattle.rows.specs.declared.numbers.Numbers.{Numbers}
use Rattle.rows.specs.Shapes.{Meets, MeetsAll, opposite_of}
use Rattle.records.specs.Lists.{at}
use Rattle.records.specs.Records.{TransitionData, TableData, EntryData, PlaceData, InnerData, WitnessData}
use Rattle.semantics.specs.declared.obligation.Obligation.{Obligation}
use Rattle.semantics.specs.declared.obligation.Obligation.TheVariants.{Consecution, Restriction, Guard, Exit}
use Rattle.semantics.specs.Goals.{after_update, with_choices, impossible}
use Rattle.semantics.specs.Runs.{Member, Declared}

-- the table has the transition with a number
abbrev pub Known : TableData → ℕ → TransitionData → Type 0
Known table n t = Member t table.transitions × (t.number ≡ n)

-- the witness lists the place with a number
abbrev pub Listed : WitnessData → ℕ → PlaceData → Type 0
Listed witness n p = Member p witness.places × (p.number ≡ n)

-- the row with an index
abbrev pub RowIs : List Numbers → ℕ → Numbers → Type 0
RowIs rows r row = at r rows ≡ Some row

-- C: after a step by an inner transition that keeps its restriction, a row of the condition of its target holds
pub record Consecutive (table : TableData) (witness : WitnessData) (n r : ℕ) (facts : List Numbers) (goal : Numbers) : Type 0 where
  pub taken : TransitionData
  pub inner : InnerData
  pub from : PlaceData
  pub into : PlaceData
  pub row : Numbers
  pub known : Known table n taken
  pub declared : Declared witness n inner
  pub from_listed : Listed witness taken.start from
  pub into_listed : Listed witness taken.target into
  pub row_is : RowIs into.condition r row
  pub facts_are : facts ≡ from.condition ++ (taken.guard ++ inner.restrictions)
  pub goal_is : goal ≡ after_update taken row

-- R: the choices of the witness meet a row of the restriction; the restriction is not among the facts
pub record Restricted (table : TableData) (witness : WitnessData) (n r : ℕ) (facts : List Numbers) (goal : Numbers) : Type 0 where
  pub taken : TransitionData
  pub inner : InnerData
  pub from : PlaceData
  pub row : Numbers
  pub known : Known table n taken
  pub declared : Declared witness n inner
  pub from_listed : Listed witness taken.start from
  pub row_is : RowIs inner.restrictions r row
  pub facts_are : facts ≡ from.condition ++ taken.guard
  pub goal_is : goal ≡ with_choices inner row

-- the transition that an entry of a plan names, and what holds where the plan takes the entry: none of the tests before
-- it is met, and its own is. The last entry has no test.
abbrev pub tests : List EntryData → List Numbers
tests entries = map (λ e. e.test) entries

pub data Entry (p : PlaceData) (e n : ℕ) (facts : List Numbers) : Type 0 where
  tested : (entry : EntryData) → at e p.tested ≡ Some entry → n ≡ entry.transition → facts ≡ map opposite_of (take e (tests p.tested)) ++ entry.test ∷ [] → Entry p e n facts
  final : e ≡ length p.tested → n ≡ p.last → facts ≡ map opposite_of (tests p.tested) → Entry p e n facts

-- G: where the plan takes an entry, a guard row of its transition is met
pub record Guarded (table : TableData) (witness : WitnessData) (place e r : ℕ) (facts : List Numbers) (goal : Numbers) : Type 0 where
  pub from : PlaceData
  pub number : ℕ
  pub reached : List Numbers
  pub taken : TransitionData
  pub from_listed : Listed witness place from
  pub entry : Entry from e number reached
  pub known : Known table number taken
  pub row_is : RowIs taken.guard r goal
  pub facts_are : facts ≡ from.condition ++ reached

-- X: a transition from a listed place that is not inner cannot be taken where the condition holds
pub record Closed (table : TableData) (witness : WitnessData) (n : ℕ) (facts : List Numbers) (goal : Numbers) : Type 0 where
  pub taken : TransitionData
  pub from : PlaceData
  pub known : Known table n taken
  pub not_inner : (i : InnerData) → Declared witness n i → ⊥
  pub from_listed : Listed witness taken.start from
  pub facts_are : facts ≡ from.condition ++ taken.guard
  pub goal_is : goal ≡ impossible

-- the table and the witness pose the obligation, with these facts and this goal
abbrev pub Poses : TableData → WitnessData → Obligation → List Numbers → Numbers → Type 0
Poses table witness (Consecution n r) facts goal = Consecutive table witness n r facts goal
Poses table witness (Restriction n r) facts goal = Restricted table witness n r facts goal
Poses table witness (Guard place e r) facts goal = Guarded table witness place e r facts goal
Poses table witness (Exit n) facts goal = Closed table witness n facts goal

-- an obligation of the table and the witness
abbrev pub ObligationOf : TableData → WitnessData → Obligation → Type 0
ObligationOf table witness o = (facts : List Numbers) × (goal : Numbers) × Poses table witness o facts goal

-- the goal holds wherever the facts do
abbrev pub Follows : List Numbers → Numbers → Type 0
Follows facts goal = (point : List ℤ) → MeetsAll point facts → Meets point goal

-- it does for every obligation
abbrev pub AllHold : TableData → WitnessData → Type 0
AllHold table witness = (o : Obligation) (facts : List Numbers) (goal : Numbers) → Poses table witness o facts goal → Follows facts goal
