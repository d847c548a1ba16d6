-- What a table and a witness hold, as plain numbers, and what the code's records say in these words.
use Rattle.std.specs.Prelude.{ℕ, List}
use Rattle.rows.specs.declared.expression.Expression.{Expression}
use Rattle.rows.specs.declared.numbers.Numbers.{Numbers}
use Rattle.rows.specs.declared.written.WrittenRow.{WrittenRow}
use Rattle.records.specs.declared.heading.Heading.{Heading}
use Rattle.records.specs.declared.records.Transition.{Transition}
use Rattle.records.specs.declared.records.PlanEntry.{PlanEntry}
use Rattle.records.specs.declared.records.Place.{Place}
use Rattle.records.specs.declared.records.Inner.{Inner}
use Rattle.records.specs.declared.shape.Shape.{Shape}
use Rattle.records.specs.Bounded.{plain_list}

-- the front of a table: how many state values and choices, the start place and the initial rows
pub record HeadingData : Type 0 where
  pub values : ℕ
  pub choices : ℕ
  pub start : ℕ
  pub initial : List Numbers

-- a transition: its number, the places it leaves and reaches, its guard rows, and an update for each state value
pub record TransitionData : Type 0 where
  pub number : ℕ
  pub start : ℕ
  pub target : ℕ
  pub guard : List Numbers
  pub updates : List Numbers

pub record TableData : Type 0 where
  pub heading : HeadingData
  pub transitions : List TransitionData

-- an entry of a plan that has a test
pub record EntryData : Type 0 where
  pub transition : ℕ
  pub test : Numbers

-- a listed place: its number, its condition rows, the entries of its plan that have a test, and the transition of the
-- last entry
pub record PlaceData : Type 0 where
  pub number : ℕ
  pub condition : List Numbers
  pub tested : List EntryData
  pub last : ℕ

-- an inner transition: its number, its restriction rows, and an expression for each choice
pub record InnerData : Type 0 where
  pub number : ℕ
  pub restrictions : List Numbers
  pub choices : List Numbers

pub record WitnessData : Type 0 where
  pub places : List PlaceData
  pub inners : List InnerData

-- the numbers of a row, and of an expression, its constant as a bound
abbrev pub row_of : WrittenRow → Numbers
row_of row = row.numbers

abbrev pub expression_of : Expression → Numbers
expression_of e = record { coefficients = e.coefficients; bound = e.constant }

abbrev pub heading_of : Heading → HeadingData
heading_of h = record { values = h.values; choices = h.choices; start = h.start; initial = plain_list row_of h.initial }

abbrev pub transition_of : Transition → TransitionData
transition_of t = record { number = t.number; start = t.start; target = t.target; guard = plain_list row_of t.guard; updates = plain_list expression_of t.updates }

abbrev pub entry_of : PlanEntry → EntryData
entry_of e = record { transition = e.transition; test = row_of e.test }

abbrev pub place_record_of : Place → PlaceData
place_record_of p = record { number = p.number; condition = plain_list row_of p.condition; tested = plain_list entry_of p.tested; last = p.last }

abbrev pub inner_of : Inner → InnerData
inner_of i = record { number = i.number; restrictions = plain_list row_of i.restrictions; choices = plain_list expression_of i.choices }

-- how many values and choices the rows and expressions of a table speak of
abbrev pub shape_of : HeadingData → Shape
shape_of h = record { values = h.values; choices = h.choices }
