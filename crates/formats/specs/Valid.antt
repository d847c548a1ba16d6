-- What a table and a witness have to be: counts within their limits, numbers that rise, written numbers, and a witness
-- that fits its table.
use Rattle.std.specs.Prelude.{◌≡◌, ℕ, ◌+◌, ◌<◌, ◌≤◌, true, List, [], ◌∷◌, map, length, pos, Some, slice_index_or}
use Rattle.std.specs.List.{AllByRecursion}
use Rattle.rows.specs.declared.limits.Limit.TheVariants.{WrittenNumber}
use Rattle.rows.specs.declared.numbers.Numbers.{Numbers}
use Rattle.rows.specs.Limits.{columns, magnitude_of}
use Rattle.rows.specs.Shapes.{Within}
use Rattle.records.specs.declared.shape.Shape.{Shape}
use Rattle.records.specs.Limits.{most_values, most_choices, most_initial, most_guards, most_transitions, most_conditions, most_tested, most_restrictions, most_places, most_inners}
use Rattle.records.specs.Lists.{first_with, among}
use Rattle.records.specs.Records.{HeadingData, TransitionData, TableData, EntryData, PlaceData, InnerData, WitnessData, shape_of}
use Rattle.records.specs.Slots.{over_values}

-- a number that two bytes hold, and the number of a place
abbrev pub IsWord : ℕ → Type 0
IsWord n = n < 65536

abbrev pub IsPlace : ℕ → Type 0
IsPlace n = (0 < n) × IsWord n

-- each number is greater than the one before it, and the first greater than `last`
abbrev pub Rising : ℕ → List ℕ → Type 0
Rising last [] = Unit {0}
Rising last (n ∷ ns) = (last < n) × Rising n ns

-- the numbers of values and choices are within their limits
pub record ShapeWithin (shape : Shape) : Type 0 where
  pub values : shape.values ≤ most_values
  pub choices : shape.choices ≤ most_choices

-- a row or an expression over the values and choices of a shape: written numbers, zero in every other column
pub record StoredRow (shape : Shape) (row : Numbers) : Type 0 where
  pub sized : length row.coefficients ≡ columns
  pub other_values : (k : ℕ) → shape.values ≤ k → k < most_values → slice_index_or row.coefficients k (pos 0) ≡ pos 0
  pub other_choices : (k : ℕ) → most_values + shape.choices ≤ k → k < columns → slice_index_or row.coefficients k (pos 0) ≡ pos 0
  pub written : Within (magnitude_of WrittenNumber) row

-- so many rows at most
pub record StoredRows (shape : Shape) (most : ℕ) (rows : List Numbers) : Type 0 where
  pub count : length rows ≤ most
  pub each : AllByRecursion (StoredRow shape) rows

pub record ValidHeading (h : HeadingData) : Type 0 where
  pub some_value : 1 ≤ h.values
  pub within : ShapeWithin (shape_of h)
  pub start : IsPlace h.start
  pub initial : StoredRows (over_values (shape_of h)) most_initial h.initial

pub record ValidTransition (shape : Shape) (t : TransitionData) : Type 0 where
  pub number : IsWord t.number
  pub start : IsPlace t.start
  pub target : IsPlace t.target
  pub guard : StoredRows (over_values shape) most_guards t.guard
  pub update_each : length t.updates ≡ shape.values
  pub updates : AllByRecursion (StoredRow shape) t.updates

pub record ValidTable (t : TableData) : Type 0 where
  pub heading : ValidHeading t.heading
  pub count : length t.transitions ≤ most_transitions
  pub each : AllByRecursion (ValidTransition (shape_of t.heading)) t.transitions
  pub rising : Rising 0 (map (λ x. x.number) t.transitions)

pub record ValidEntry (shape : Shape) (e : EntryData) : Type 0 where
  pub transition : IsWord e.transition
  pub test : StoredRow (over_values shape) e.test

pub record ValidPlace (shape : Shape) (p : PlaceData) : Type 0 where
  pub number : IsWord p.number
  pub condition : StoredRows (over_values shape) most_conditions p.condition
  pub tested_count : length p.tested ≤ most_tested
  pub tested : AllByRecursion (ValidEntry shape) p.tested
  pub last : IsWord p.last

pub record ValidInner (shape : Shape) (i : InnerData) : Type 0 where
  pub number : IsWord i.number
  pub restrictions : StoredRows shape most_restrictions i.restrictions
  pub choice_each : length i.choices ≡ shape.choices
  pub choices : AllByRecursion (StoredRow (over_values shape)) i.choices

-- the table's transition with a number (the first, where the numbers do not rise)
abbrev pub Transition-is : List TransitionData → ℕ → TransitionData → Type 0
Transition-is transitions n t = first_with (λ x. x.number) n transitions ≡ Some t

-- the numbers of the listed places, and of the inner transitions
abbrev pub place_numbers : WitnessData → List ℕ
place_numbers w = map (λ p. p.number) w.places

abbrev pub inner_numbers : WitnessData → List ℕ
inner_numbers w = map (λ i. i.number) w.inners

-- a plan entry names an inner transition that starts at its place
abbrev pub EntryFits : List TransitionData → WitnessData → ℕ → ℕ → Type 0
EntryFits transitions w place n = ((t : TransitionData) × Transition-is transitions n t × (t.start ≡ place)) × (among n (inner_numbers w) ≡ true)

-- every entry of a plan does, the last too
abbrev pub PlanFits : List TransitionData → WitnessData → PlaceData → Type 0
PlanFits transitions w p = AllByRecursion (λ e. EntryFits transitions w p.number e.transition) p.tested × EntryFits transitions w p.number p.last

-- an inner transition is one of the table, and its start and target are listed
abbrev pub InnerFits : List TransitionData → WitnessData → InnerData → Type 0
InnerFits transitions w i =
    (t : TransitionData) × Transition-is transitions i.number t × (among t.start (place_numbers w) ≡ true) × (among t.target (place_numbers w) ≡ true)

pub record ValidWitness (transitions : List TransitionData) (shape : Shape) (w : WitnessData) : Type 0 where
  pub place_count_lem : length w.places ≤ most_places
  pub places : AllByRecursion (ValidPlace shape) w.places
  pub places_rising : Rising 0 (place_numbers w)
  pub inner_count_lem : length w.inners ≤ most_inners
  pub inners : AllByRecursion (ValidInner shape) w.inners
  pub inners_rising : Rising 0 (inner_numbers w)
  pub plans_fit : AllByRecursion (PlanFits transitions w) w.places
  pub inners_fit : AllByRecursion (InnerFits transitions w) w.inners
