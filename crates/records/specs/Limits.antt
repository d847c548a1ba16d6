-- The limits of a table and a witness, each stated once.
use Rattle.std.specs.Prelude.{ℕ}

-- the greatest number of state values, and of choices
abbrev pub most_values : ℕ
most_values = 6

abbrev pub most_choices : ℕ
most_choices = 2

-- the greatest number of initial rows, guard rows, condition rows and restriction rows
abbrev pub most_initial : ℕ
most_initial = 6

abbrev pub most_guards : ℕ
most_guards = 4

abbrev pub most_conditions : ℕ
most_conditions = 6

abbrev pub most_restrictions : ℕ
most_restrictions = 2

-- the greatest number of plan entries, and of those that have a test
abbrev pub most_entries : ℕ
most_entries = 4

abbrev pub most_tested : ℕ
most_tested = 3

-- the greatest number of transitions, listed places and inner transitions
abbrev pub most_transitions : ℕ
most_transitions = 24

abbrev pub most_places : ℕ
most_places = 12

abbrev pub most_inners : ℕ
most_inners = 24
