-- What each fault is called by number, what its place, depth and item hold, and how a fault is made.
use Rattle.std.specs.Prelude.{◌≡◌, ℕ, ◌+◌, ◌-◌, ◌^◌, ◌<◌, min, Bool, cond, Some, None, Ok, Err, Option, Result}
use Rattle.rows.specs.declared.fault.Fault.{Fault}
use Rattle.rows.specs.declared.fault.FaultKind.{FaultKind}
use Rattle.rows.specs.declared.fault.FaultKind.TheVariants.{TableVersion, TableLength, TableCount, TableNumber, TableWritten, AdmitWithoutTable, WitnessVersion, WitnessLength, WitnessCount, WitnessNumber, WitnessWritten, WitnessReference, BeginWithoutTable, BeginValues, InitialRowUnmet, AdvanceWithoutState, AdvanceTransition, AdvanceChoices, GuardRowUnmet, NewValueTooLarge, StepsExhausted, AddWithoutWitness, AddToUnknown, AddedNumbers, AddedRowsFull, ProveWithoutWitness, NoSuchObligation, SheetTooShort, RowNumberTooLarge, TooManyFacts, CertificateLength, LayerByte, MultiplierRange, ColumnDiffers, BoundNotShown, LayerRowTooLarge, NoRoomForFact, VerdictWithoutTable, VerdictWithoutWitness, VerdictWithoutState, PlaceUnlisted, ConditionRowUnmet, ConsecutionOpen, RestrictionOpen, GuardOpen, ExitOpen, UnrollNotAccepted, UnrollTooLong, UnrollTableTooShort, DossierTooLong, DossierPiece, TraceLength, DossierLeftOver}

-- what a field of a fault holds
pub data Holding : Type 0 where
  -- the field is not named: zero
  nothing : Holding
  -- the offset of a byte in what was read: a field's first byte, a piece's length field, a certificate's first byte
  byte_offset : Holding
  -- the number of a place, or of a transition
  place_number : Holding
  transition_number : Holding
  -- how many layers of methods lie above the method that found the fault, 255 for more
  layer_count : Holding
  -- a plan entry, counted from 0
  entry_index : Holding
  -- a row among the rows tested, counted from 0
  row_index : Holding
  -- a number of a row: its columns from 0, then its bound
  number_index : Holding

-- a kind of fault: its number, and what place, depth and item hold
pub record Reads : Type 0 where
  pub number : ℕ
  pub place : Holding
  pub depth : Holding
  pub item : Holding

abbrev pub reads : ℕ → Holding → Holding → Holding → Reads
reads n p d i = record { number = n; place = p; depth = d; item = i }

abbrev pub describe : FaultKind → Reads
describe TableVersion = reads 1 byte_offset nothing nothing
describe TableLength = reads 2 byte_offset nothing nothing
describe TableCount = reads 3 byte_offset nothing nothing
describe TableNumber = reads 4 byte_offset nothing nothing
describe TableWritten = reads 5 byte_offset nothing nothing
describe AdmitWithoutTable = reads 11 nothing nothing nothing
describe WitnessVersion = reads 12 byte_offset nothing nothing
describe WitnessLength = reads 13 byte_offset nothing nothing
describe WitnessCount = reads 14 byte_offset nothing nothing
describe WitnessNumber = reads 15 byte_offset nothing nothing
describe WitnessWritten = reads 16 byte_offset nothing nothing
describe WitnessReference = reads 17 byte_offset nothing nothing
describe BeginWithoutTable = reads 21 nothing nothing nothing
describe BeginValues = reads 22 nothing nothing nothing
describe InitialRowUnmet = reads 23 nothing nothing row_index
describe AdvanceWithoutState = reads 24 nothing nothing nothing
describe AdvanceTransition = reads 25 nothing nothing nothing
describe AdvanceChoices = reads 26 nothing nothing nothing
describe GuardRowUnmet = reads 27 nothing nothing row_index
describe NewValueTooLarge = reads 28 nothing nothing nothing
describe StepsExhausted = reads 29 nothing nothing nothing
describe AddWithoutWitness = reads 31 nothing nothing nothing
describe AddToUnknown = reads 32 nothing nothing nothing
describe AddedNumbers = reads 33 nothing nothing nothing
describe AddedRowsFull = reads 34 nothing nothing nothing
describe ProveWithoutWitness = reads 41 nothing nothing nothing
describe NoSuchObligation = reads 42 nothing nothing nothing
describe SheetTooShort = reads 43 nothing nothing nothing
describe RowNumberTooLarge = reads 50 byte_offset layer_count number_index
describe TooManyFacts = reads 51 byte_offset layer_count nothing
describe CertificateLength = reads 52 byte_offset layer_count nothing
describe LayerByte = reads 53 byte_offset layer_count nothing
describe MultiplierRange = reads 54 byte_offset layer_count nothing
describe ColumnDiffers = reads 55 byte_offset layer_count number_index
describe BoundNotShown = reads 56 byte_offset layer_count number_index
describe LayerRowTooLarge = reads 57 byte_offset layer_count number_index
describe NoRoomForFact = reads 58 byte_offset layer_count nothing
describe VerdictWithoutTable = reads 61 nothing nothing nothing
describe VerdictWithoutWitness = reads 62 nothing nothing nothing
describe VerdictWithoutState = reads 63 nothing nothing nothing
describe PlaceUnlisted = reads 64 place_number nothing nothing
describe ConditionRowUnmet = reads 65 place_number nothing row_index
describe ConsecutionOpen = reads 66 transition_number nothing row_index
describe RestrictionOpen = reads 67 transition_number nothing row_index
describe GuardOpen = reads 68 place_number entry_index row_index
describe ExitOpen = reads 69 transition_number nothing nothing
describe UnrollNotAccepted = reads 71 nothing nothing nothing
describe UnrollTooLong = reads 72 nothing nothing nothing
describe UnrollTableTooShort = reads 73 nothing nothing nothing
describe DossierTooLong = reads 81 nothing nothing nothing
describe DossierPiece = reads 82 byte_offset nothing nothing
describe TraceLength = reads 83 byte_offset nothing nothing
describe DossierLeftOver = reads 84 byte_offset nothing nothing

-- the number by which a fault is printed
abbrev pub number_of : FaultKind → ℕ
number_of kind = (describe kind).number

-- a field that is not named is zero
abbrev pub Named : Holding → ℕ → Type 0
Named nothing n = n ≡ 0
Named byte_offset n = Unit {0}
Named place_number n = Unit {0}
Named transition_number n = Unit {0}
Named layer_count n = Unit {0}
Named entry_index n = Unit {0}
Named row_index n = Unit {0}
Named number_index n = Unit {0}

-- the fault's fields are zero where its kind does not name them
pub record Stated (f : Fault) : Type 0 where
  pub place : Named (describe f.kind).place f.place
  pub depth : Named (describe f.kind).depth f.depth
  pub item : Named (describe f.kind).item f.item

abbrev pub fault_of : FaultKind → ℕ → ℕ → ℕ → Fault
fault_of k p d i = record { kind = k; place = p; depth = d; item = i }

-- what a question, or a call that answers no value, says
abbrev pub Said : Type 0
Said = Result (Unit {0}) Fault

-- one test after another: the first fault counts
infixr 20 ◌and_then◌
abbrev pub ◌and_then◌ : Said → Said → Said
Ok u and_then next = next
Err f and_then next = Err f

-- a test that answers the fault where it fails
abbrev pub check : Bool → Fault → Said
check test f = cond test (Ok tt) (Err f)

-- the fault at the first item found, if one is
abbrev pub unless_found : FaultKind → Option ℕ → Said
unless_found kind None = Ok tt
unless_found kind (Some item) = Err (fault_of kind 0 0 item)

-- a fault of the method below, as its layer reports it: its place further on by the offset of the lower certificate, its
-- depth one more, which stops at the largest that its type holds
abbrev pub raised : ℕ → Fault → Fault
raised offset f = record { kind = f.kind; place = f.place + offset; depth = min (f.depth + 1) 255; item = f.item }

-- the answer of the method below, as its layer reports it
abbrev pub moved : ℕ → Said → Said
moved offset (Ok u) = Ok u
moved offset (Err f) = Err (raised offset f)

-- the fault's place, moved by the offset, is one that an offset can name
abbrev pub Movable : ℕ → Said → Type 0
Movable offset (Ok u) = Unit {0}
Movable offset (Err f) = f.place + offset < 2 ^ 64

-- the same with the place, too, stopping at the largest that its type holds
abbrev pub raised_within : ℕ → Fault → Fault
raised_within offset f = record { kind = f.kind; place = min (f.place + offset) (2 ^ 64 - 1); depth = min (f.depth + 1) 255; item = f.item }

abbrev pub moved_within : Said → ℕ → Said
moved_within (Ok u) offset = Ok u
moved_within (Err f) offset = Err (raised_within offset f)
