-- Reading a table: from bytes to the table or the first fault. What the bytes say is one definition, and the tests, in
-- their order, another.
use Rattle.std.specs.Prelude.{ℕ, zero, suc, ◌+◌, ◌*◌, cond, ◌&&◌, List, [], ◌∷◌, length, Ok, Result, nat_le, nat_lt}
use Rattle.rows.specs.declared.fault.Fault.{Fault}
use Rattle.rows.specs.declared.fault.FaultKind.TheVariants.{TableVersion, TableLength, TableCount, TableNumber, TableWritten}
use Rattle.rows.specs.Bytes.{word_at}
use Rattle.rows.specs.Faults.{Said, ◌and_then◌, check}
use Rattle.records.specs.declared.shape.Shape.{Shape}
use Rattle.records.specs.Limits.{most_values, most_choices, most_initial, most_guards, most_transitions, most_places, most_inners}
use Rattle.formats.specs.Pieces.{byte_at, fault_at, piece_end, piece_at, piece_says, reach_says, long_says, count_says, above_says, giving, pieces_from, version_says}
use Rattle.records.specs.Records.{HeadingData, TransitionData, TableData}
use Rattle.formats.specs.StoredRows.{rows_at, rows_say}
use Rattle.records.specs.Slots.{over_values, stride}

-- where the fields of a heading stand in its rest
abbrev pub values_from : ℕ
values_from = 0

abbrev pub choices_from : ℕ
choices_from = 1

abbrev pub start_from : ℕ
start_from = 2

abbrev pub initial_count_from : ℕ
initial_count_from = 4

abbrev pub initial_from : ℕ
initial_from = 5

abbrev pub heading_shape : List ℕ → Shape
heading_shape rest = record { values = byte_at rest values_from; choices = byte_at rest choices_from }

abbrev pub heading_at : List ℕ → HeadingData
heading_at rest = record {
  values = byte_at rest values_from;
  choices = byte_at rest choices_from;
  start = word_at rest start_from;
  initial = rows_at (over_values (heading_shape rest)) rest initial_from (byte_at rest initial_count_from);
}

abbrev pub heading_length : List ℕ → ℕ
heading_length rest = initial_from + stride (over_values (heading_shape rest)) * byte_at rest initial_count_from

unfoldable pub heading_says : ℕ → List ℕ → Said
heading_says offset rest =
    reach_says TableLength offset rest (values_from + 1)
    and_then count_says TableCount offset rest values_from 1 most_values
    and_then reach_says TableLength offset rest (choices_from + 1)
    and_then count_says TableCount offset rest choices_from 0 most_choices
    and_then reach_says TableLength offset rest (initial_count_from + 1)
    and_then count_says TableCount offset rest initial_count_from 0 most_initial
    and_then long_says TableLength offset rest (heading_length rest)
    and_then above_says TableNumber offset rest start_from 0
    and_then rows_say TableWritten (over_values (heading_shape rest)) offset rest initial_from (byte_at rest initial_count_from)

-- where the fields of a transition piece stand in its rest
abbrev pub number_from : ℕ
number_from = 0

abbrev pub left_from : ℕ
left_from = 2

abbrev pub reached_from : ℕ
reached_from = 4

abbrev pub guard_count_from : ℕ
guard_count_from = 6

abbrev pub guard_from : ℕ
guard_from = 7

abbrev pub updates_from : Shape → List ℕ → ℕ
updates_from shape rest = guard_from + stride (over_values shape) * byte_at rest guard_count_from

abbrev pub transition_at : Shape → List ℕ → TransitionData
transition_at shape rest = record {
  number = word_at rest number_from;
  start = word_at rest left_from;
  target = word_at rest reached_from;
  guard = rows_at (over_values shape) rest guard_from (byte_at rest guard_count_from);
  updates = rows_at shape rest (updates_from shape rest) shape.values;
}

abbrev pub transition_length : Shape → List ℕ → ℕ
transition_length shape rest = updates_from shape rest + stride shape * shape.values

-- a transition piece, where `room` more may come and the one before has the number `last` (0 before the first): its own
-- number is greater, and so not 0
unfoldable pub transition_says : Shape → ℕ → ℕ → ℕ → List ℕ → Said
transition_says shape room last offset rest =
    reach_says TableLength offset rest (guard_count_from + 1)
    and_then check (nat_lt 0 room) (fault_at TableCount offset)
    and_then count_says TableCount offset rest guard_count_from 0 most_guards
    and_then long_says TableLength offset rest (transition_length shape rest)
    and_then above_says TableNumber offset rest number_from last
    and_then above_says TableNumber offset rest left_from 0
    and_then above_says TableNumber offset rest reached_from 0
    and_then rows_say TableWritten (over_values shape) offset rest guard_from (byte_at rest guard_count_from)
    and_then rows_say TableWritten shape offset rest (updates_from shape rest) shape.values

-- the piece at an offset as a transition piece
abbrev pub next_says : Shape → List ℕ → ℕ → ℕ → ℕ → Said
next_says shape bytes room last at = piece_says TableLength bytes at and_then transition_says shape room last at (piece_at bytes at)

-- the transitions in the pieces from an offset to the end, at most `room` of them
unfoldable pub transitions_at : Shape → List ℕ → ℕ → ℕ → List TransitionData
transitions_at shape bytes zero at = []
transitions_at shape bytes (suc room) at =
    cond (nat_lt at (length bytes))
    (transition_at shape (piece_at bytes at) ∷ transitions_at shape bytes room (piece_end bytes at))
    []

unfoldable pub transitions_say : Shape → List ℕ → ℕ → ℕ → ℕ → Said
transitions_say shape bytes zero last at =
    cond (nat_lt at (length bytes))
    (next_says shape bytes zero last at)
    (Ok tt)
transitions_say shape bytes (suc room) last at =
    cond (nat_lt at (length bytes))
    (next_says shape bytes (suc room) last at
    and_then transitions_say shape bytes room (word_at (piece_at bytes at) number_from) (piece_end bytes at))
    (Ok tt)

-- the heading is the first piece, and the transitions follow
abbrev pub heading_rest : List ℕ → List ℕ
heading_rest bytes = piece_at bytes pieces_from

unfoldable pub table_at : List ℕ → TableData
table_at bytes = record {
  heading = heading_at (heading_rest bytes);
  transitions = transitions_at (heading_shape (heading_rest bytes)) bytes most_transitions (piece_end bytes pieces_from);
}

unfoldable pub content_says : List ℕ → Said
content_says bytes =
    piece_says TableLength bytes pieces_from
    and_then heading_says pieces_from (heading_rest bytes)
    and_then transitions_say (heading_shape (heading_rest bytes)) bytes most_transitions 0 (piece_end bytes pieces_from)

abbrev pub table_says : List ℕ → Said
table_says bytes = version_says TableVersion bytes and_then content_says bytes

abbrev pub read_table : List ℕ → Result TableData Fault
read_table bytes = giving (table_says bytes) (table_at bytes)

-- memory for so many transitions, listed places and inner transitions is enough for every table and witness
abbrev pub memory_says : ℕ → ℕ → ℕ → Said
memory_says transitions places inners =
    check (nat_le most_transitions transitions && (nat_le most_places places && nat_le most_inners inners)) (fault_at TableCount 0)

-- reading into registers of these sizes
abbrev pub open_says : ℕ → ℕ → ℕ → List ℕ → Said
open_says transitions places inners bytes =
    version_says TableVersion bytes and_then memory_says transitions places inners and_then content_says bytes
