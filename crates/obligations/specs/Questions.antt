-- What the code's records and questions say in plain numbers.
use Rattle.std.specs.Prelude.{◌≡◌, [], map, IfSome, Option, MatchOption}
use Rattle.std.specs.Option.{option_map}
use Rattle.records.specs.Bounded.{listed}
use Rattle.records.specs.Records.{HeadingData, TableData, WitnessData, transition_of, place_record_of, inner_of}
use Rattle.semantics.specs.declared.obligation.Obligation.{Obligation}
use Rattle.semantics.specs.Enumerated.{Posed, posed}
use Rattle.semantics.specs.Laws.{Fitting}
use Rattle.semantics.specs.Obligations.{ObligationOf, Poses}
use Rattle.obligations.specs.declared.lookups.Records.{Records}
use Rattle.obligations.specs.declared.question.Question.{Question}

-- a table with the transitions of some records, and a witness with their places and inner transitions
abbrev pub table_of : HeadingData → Records → TableData
table_of heading records = record { heading = heading; transitions = map transition_of records.transitions.now }

-- the same with a front of zeros: no obligation depends on the front
abbrev pub bare_table : Records → TableData
bare_table records = table_of (record { values = 0; choices = 0; start = 0; initial = [] }) records

abbrev pub witness_of : Records → WitnessData
witness_of records = record { places = map place_record_of records.places.now; inners = map inner_of records.inners.now }

abbrev pub posed_by : Question → Posed
posed_by q = posed (listed q.facts) q.goal

-- the question is the one that a definition poses, whatever the table's heading
abbrev pub Asks : (TableData → WitnessData → Option Posed) → Records → Option Question → Type 0
Asks definition records r = (heading : HeadingData) → option_map posed_by r ≡ definition (table_of heading records) (witness_of records)

-- for a table and a witness that fits it, it is the question of the relation, and there is none where the relation has no
-- such obligation
abbrev pub Relates : Records → Obligation → Option Question → Type 0
Relates records o r =
    (heading : HeadingData) → Fitting (table_of heading records) (witness_of records) →
    MatchOption r (ObligationOf (table_of heading records) (witness_of records) o → ⊥) (λ q. Poses (table_of heading records) (witness_of records) o (listed q.facts) q.goal)

-- for a table and a witness that fits it, it is an obligation of the relation
abbrev pub Obliges : Records → Option Obligation → Type 0
Obliges records r =
    (heading : HeadingData) → Fitting (table_of heading records) (witness_of records) → IfSome r (ObligationOf (table_of heading records) (witness_of records))
