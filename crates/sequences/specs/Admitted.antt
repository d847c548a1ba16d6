-- What reading a witness leaves in the registers of listed places and of inner transitions.
use Rattle.std.specs.Prelude.{ℕ, ◌<◌, List, [], ◌∷◌, ◌++◌, length, Result}
use Rattle.rows.specs.declared.fault.Fault.{Fault}
use Rattle.records.specs.declared.records.Place.{Place}
use Rattle.records.specs.declared.records.Inner.{Inner}
use Rattle.records.specs.declared.register.Register.{Register}
use Rattle.records.specs.Held.{held, room, ReadInto}
use Rattle.records.specs.Records.{PlaceData, InnerData, WitnessData, place_record_of, inner_of}
use Rattle.formats.specs.Witnesses.{RecordData, PlaceRecord, InnerRecord}

-- the register that a record belongs to has room for it
abbrev pub Roomy : RecordData → Register Place → Register Inner → Type 0
Roomy (PlaceRecord x) places inners = length (held places) < room places
Roomy (InnerRecord y) places inners = length (held inners) < room inners

-- a record put behind those of its kind, and how many of each kind it is
abbrev pub places_added : RecordData → List PlaceData → List PlaceData
places_added (PlaceRecord x) xs = xs ++ x ∷ []
places_added (InnerRecord y) xs = xs

abbrev pub inners_added : RecordData → List InnerData → List InnerData
inners_added (PlaceRecord x) ys = ys
inners_added (InnerRecord y) ys = ys ++ y ∷ []

abbrev pub place_count : RecordData → ℕ
place_count (PlaceRecord x) = 1
place_count (InnerRecord y) = 0

abbrev pub inner_count : RecordData → ℕ
inner_count (PlaceRecord x) = 0
inner_count (InnerRecord y) = 1

-- after a success the two registers hold what was read, after a refusal they are as they were
abbrev pub AdmittedInto : WitnessData → Register Place → Register Place → Register Inner → Register Inner → Result (Unit {0}) Fault → Type 0
AdmittedInto w places places' inners inners' r = ReadInto place_record_of w.places places places' r × ReadInto inner_of w.inners inners inners' r
