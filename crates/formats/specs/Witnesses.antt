-- Reading a witness against a table: from bytes to the witness or the first fault. What the bytes say is one
-- definition, and the tests, in their order, another.
use Rattle.std.specs.Prelude.{ℕ, ◌+◌, ◌-◌, ◌*◌, Bool, false, cond, ◌&&◌, List, [], ◌∷◌, ◌++◌, map, length, Some, None, Ok, Option, Result, ◌==◌, nat_le, nat_lt}
use Rattle.std.specs.Option.{unwrap_or}
use Rattle.rows.specs.declared.fault.Fault.{Fault}
use Rattle.rows.specs.declared.fault.FaultKind.TheVariants.{TableCount, WitnessVersion, WitnessLength, WitnessCount, WitnessNumber, WitnessWritten, WitnessReference}
use Rattle.rows.specs.Bytes.{word_at}
use Rattle.rows.specs.Faults.{Said, ◌and_then◌, check}
use Rattle.records.specs.declared.shape.Shape.{Shape}
use Rattle.records.specs.Limits.{most_conditions, most_entries, most_restrictions, most_places, most_inners}
use Rattle.records.specs.Lists.{at, first_with, among}
use Rattle.formats.specs.Pieces.{each, each_says, byte_at, fault_at, rest_from, reach_says, long_says, count_says, above_says, giving, pieces_from, version_says}
use Rattle.records.specs.Records.{TransitionData, EntryData, PlaceData, InnerData, WitnessData}
use Rattle.formats.specs.StoredRows.{row_at, row_says, rows_at, rows_say}
use Rattle.records.specs.Slots.{over_values, stride}
use Rattle.formats.specs.Walks.{PieceData, left, pieces_at, walk_says}

-- the last of some numbers, 0 where there is none
abbrev pub last_of : List ℕ → ℕ
last_of numbers = unwrap_or (at (length numbers - 1) numbers) 0

-- the kinds of pieces
abbrev pub place_kind : ℕ
place_kind = 1

abbrev pub inner_kind : ℕ
inner_kind = 2

-- where the fields stand that both kinds of pieces have
abbrev pub kind_from : ℕ
kind_from = 0

abbrev pub number_from : ℕ
number_from = 1

abbrev pub count_from : ℕ
count_from = 3

abbrev pub rows_from : ℕ
rows_from = 4

abbrev pub is_place : PieceData → Bool
is_place p = byte_at p.rest kind_from == place_kind

-- where the plan of a place piece stands: its count, its entries, and the transition and the test row of each
abbrev pub plan_count_from : Shape → List ℕ → ℕ
plan_count_from shape rest = rows_from + stride (over_values shape) * byte_at rest count_from

abbrev pub plan_from : Shape → List ℕ → ℕ
plan_from shape rest = plan_count_from shape rest + 1

abbrev pub entries : Shape → List ℕ → ℕ
entries shape rest = byte_at rest (plan_count_from shape rest)

abbrev pub entry_stride : Shape → ℕ
entry_stride shape = 2 + stride (over_values shape)

abbrev pub entry_from : Shape → ℕ → ℕ → ℕ
entry_from shape from e = from + entry_stride shape * e

abbrev pub test_from : Shape → ℕ → ℕ → ℕ
test_from shape from e = entry_from shape from e + 2

abbrev pub entry_at : Shape → List ℕ → ℕ → ℕ → EntryData
entry_at shape rest from e = record { transition = word_at rest (entry_from shape from e); test = row_at (over_values shape) rest (test_from shape from e) }

-- the entries that have a test
abbrev pub tested_at : Shape → List ℕ → ℕ → ℕ → List EntryData
tested_at shape rest from count = each (entry_at shape rest from) count

abbrev pub tested_say : Shape → ℕ → List ℕ → ℕ → ℕ → Said
tested_say shape offset rest from count = each_says (λ e. row_says WitnessWritten (over_values shape) offset rest (test_from shape from e)) count

abbrev pub place_at : Shape → List ℕ → PlaceData
place_at shape rest = record {
  number = word_at rest number_from;
  condition = rows_at (over_values shape) rest rows_from (byte_at rest count_from);
  tested = tested_at shape rest (plan_from shape rest) (entries shape rest - 1);
  last = word_at rest (entry_from shape (plan_from shape rest) (entries shape rest - 1));
}

abbrev pub place_length : Shape → List ℕ → ℕ
place_length shape rest = entry_from shape (plan_from shape rest) (entries shape rest - 1) + 2

-- a place piece, behind the places and the inner transitions with these numbers
unfoldable pub place_says : Shape → List ℕ → List ℕ → ℕ → List ℕ → Said
place_says shape places inners offset rest =
    check (nat_lt (length places) most_places) (fault_at WitnessCount (rest_from offset + kind_from))
    and_then reach_says WitnessLength offset rest (count_from + 1)
    and_then count_says WitnessCount offset rest count_from 0 most_conditions
    and_then reach_says WitnessLength offset rest (plan_count_from shape rest + 1)
    and_then count_says WitnessCount offset rest (plan_count_from shape rest) 1 most_entries
    and_then long_says WitnessLength offset rest (place_length shape rest)
    and_then check (length inners == 0) (fault_at WitnessNumber (rest_from offset + kind_from))
    and_then above_says WitnessNumber offset rest number_from (last_of places)
    and_then rows_say WitnessWritten (over_values shape) offset rest rows_from (byte_at rest count_from)
    and_then tested_say shape offset rest (plan_from shape rest) (entries shape rest - 1)

-- where the choice expressions of an inner-transition piece stand
abbrev pub choices_from : Shape → List ℕ → ℕ
choices_from shape rest = rows_from + stride shape * byte_at rest count_from

abbrev pub inner_at : Shape → List ℕ → InnerData
inner_at shape rest = record {
  number = word_at rest number_from;
  restrictions = rows_at shape rest rows_from (byte_at rest count_from);
  choices = rows_at (over_values shape) rest (choices_from shape rest) shape.choices;
}

abbrev pub inner_length : Shape → List ℕ → ℕ
inner_length shape rest = choices_from shape rest + stride (over_values shape) * shape.choices

-- an inner-transition piece, behind the inner transitions with these numbers
unfoldable pub inner_says : Shape → List ℕ → ℕ → List ℕ → Said
inner_says shape inners offset rest =
    check (nat_lt (length inners) most_inners) (fault_at WitnessCount (rest_from offset + kind_from))
    and_then reach_says WitnessLength offset rest (count_from + 1)
    and_then count_says WitnessCount offset rest count_from 0 most_restrictions
    and_then long_says WitnessLength offset rest (inner_length shape rest)
    and_then above_says WitnessNumber offset rest number_from (last_of inners)
    and_then rows_say WitnessWritten shape offset rest rows_from (byte_at rest count_from)
    and_then rows_say WitnessWritten (over_values shape) offset rest (choices_from shape rest) shape.choices

-- the kind of a piece
unfoldable pub kind_says : PieceData → Said
kind_says p =
    reach_says WitnessLength p.offset p.rest (kind_from + 1)
    and_then count_says WitnessCount p.offset p.rest kind_from place_kind inner_kind

-- a piece, by its kind
pub data PartData : Type 0 where
  PlacePart : PieceData → PartData
  InnerPart : PieceData → PartData

abbrev pub part_of : PieceData → PartData
part_of p = cond (is_place p) (PlacePart p) (InnerPart p)

abbrev pub within : PartData → PieceData
within (PlacePart p) = p
within (InnerPart p) = p

-- the numbers of the places and of the inner transitions so far
pub record Progress : Type 0 where
  pub places : List ℕ
  pub inners : List ℕ

abbrev pub begun : Progress
begun = record { places = []; inners = [] }

abbrev pub number_of : PieceData → ℕ
number_of p = word_at p.rest number_from

abbrev pub further_by : Progress → PartData → Progress
further_by s (PlacePart p) = record { places = s.places ++ number_of p ∷ []; inners = s.inners }
further_by s (InnerPart p) = record { places = s.places; inners = s.inners ++ number_of p ∷ [] }

abbrev pub further : Progress → PieceData → Progress
further s p = further_by s (part_of p)

abbrev pub body_by : Shape → Progress → PartData → Said
body_by shape s (PlacePart p) = place_says shape s.places s.inners p.offset p.rest
body_by shape s (InnerPart p) = inner_says shape s.inners p.offset p.rest

abbrev pub part_says : Shape → Progress → PieceData → Said
part_says shape s p = kind_says p and_then body_by shape s (part_of p)

-- what a piece holds
pub data RecordData : Type 0 where
  PlaceRecord : PlaceData → RecordData
  InnerRecord : InnerData → RecordData

abbrev pub record_by : Shape → PartData → RecordData
record_by shape (PlacePart p) = PlaceRecord (place_at shape p.rest)
record_by shape (InnerPart p) = InnerRecord (inner_at shape p.rest)

-- the listed places and the inner transitions of some pieces
abbrev pub places_with : RecordData → List PlaceData → List PlaceData
places_with (PlaceRecord x) xs = x ∷ xs
places_with (InnerRecord y) xs = xs

abbrev pub inners_with : RecordData → List InnerData → List InnerData
inners_with (PlaceRecord x) ys = ys
inners_with (InnerRecord y) ys = y ∷ ys

abbrev pub places_of : Shape → List PieceData → List PlaceData
places_of shape [] = []
places_of shape (p ∷ ps) = places_with (record_by shape (part_of p)) (places_of shape ps)

abbrev pub inners_of : Shape → List PieceData → List InnerData
inners_of shape [] = []
inners_of shape (p ∷ ps) = inners_with (record_by shape (part_of p)) (inners_of shape ps)

-- all pieces of the bytes
unfoldable pub pieces_of : List ℕ → List PieceData
pieces_of bytes = pieces_at bytes (left bytes pieces_from) pieces_from

unfoldable pub pieces_say : Shape → List ℕ → Said
pieces_say shape bytes = walk_says WitnessLength (part_says shape) further bytes (left bytes pieces_from) begun pieces_from

abbrev pub witness_at : Shape → List ℕ → WitnessData
witness_at shape bytes = record { places = places_of shape (pieces_of bytes); inners = inners_of shape (pieces_of bytes) }

-- the numbers of its places and of its inner transitions
abbrev pub numbers_in : WitnessData → Progress
numbers_in w = record { places = map (λ p. p.number) w.places; inners = map (λ i. i.number) w.inners }

-- what a witness names in its table: the transitions, and the numbers of the places that it lists and of those that it
-- declares inner
pub record Named : Type 0 where
  pub transitions : List TransitionData
  pub places : List ℕ
  pub inners : List ℕ

-- a plan entry of a place: its transition is in the table and starts there
abbrev pub starts_at : ℕ → Option TransitionData → Bool
starts_at place None = false
starts_at place (Some t) = t.start == place

unfoldable pub entry_fits : Named → ℕ → ℕ → Bool
entry_fits named place n = starts_at place (first_with (λ t. t.number) n named.transitions) && among n named.inners

-- an inner transition: it is in the table, and its start and target are listed
abbrev pub joins_listed : List ℕ → Option TransitionData → Bool
joins_listed places None = false
joins_listed places (Some t) = among t.start places && among t.target places

unfoldable pub inner_fits : Named → ℕ → Bool
inner_fits named n = joins_listed named.places (first_with (λ t. t.number) n named.transitions)

-- an entry of a plan, at its transition
abbrev pub entry_test : Named → ℕ → ℕ → List ℕ → ℕ → ℕ → ℕ → Said
entry_test named place offset rest from size e =
    check (entry_fits named place (word_at rest (from + size * e))) (fault_at WitnessReference (rest_from offset + (from + size * e)))

-- the entries of a plan, and an inner transition, at its number
unfoldable pub plan_says : Shape → Named → ℕ → List ℕ → Said
plan_says shape named offset rest =
    each_says (entry_test named (word_at rest number_from) offset rest (plan_from shape rest) (entry_stride shape)) (entries shape rest)

abbrev pub reference_by : Shape → Named → PartData → Said
reference_by shape named (PlacePart p) = plan_says shape named p.offset p.rest
reference_by shape named (InnerPart p) = check (inner_fits named (number_of p)) (fault_at WitnessReference (rest_from p.offset + number_from))

abbrev pub references_say : Shape → Named → List PieceData → Said
references_say shape named [] = Ok tt
references_say shape named (p ∷ ps) = reference_by shape named (part_of p) and_then references_say shape named ps

abbrev pub named_in : List TransitionData → Progress → Named
named_in transitions numbers = record { transitions = transitions; places = numbers.places; inners = numbers.inners }

unfoldable pub content_says : List TransitionData → Shape → List ℕ → Said
content_says transitions shape bytes = pieces_say shape bytes and_then references_say shape (named_in transitions (numbers_in (witness_at shape bytes))) (pieces_of bytes)

abbrev pub witness_says : List TransitionData → Shape → List ℕ → Said
witness_says transitions shape bytes = version_says WitnessVersion bytes and_then content_says transitions shape bytes

abbrev pub read_witness : List TransitionData → Shape → List ℕ → Result WitnessData Fault
read_witness transitions shape bytes = giving (witness_says transitions shape bytes) (witness_at shape bytes)

-- memory for so many listed places and inner transitions is enough for every witness
abbrev pub witness_memory_says : ℕ → ℕ → Said
witness_memory_says places inners = check (nat_le most_places places && nat_le most_inners inners) (fault_at TableCount 0)

-- reading into registers of these sizes; too little memory is refused before anything else
abbrev pub admit_says : ℕ → ℕ → List TransitionData → Shape → List ℕ → Said
admit_says places inners transitions shape bytes = witness_memory_says places inners and_then witness_says transitions shape bytes
