-- What a table and a witness hold in short, and the answer to bytes that are read as one.
use Rattle.std.specs.Prelude.{ℕ, List, length, Result}
use Rattle.rows.specs.declared.fault.Fault.{Fault}
use Rattle.records.specs.declared.heading.Heading.{Heading}
use Rattle.records.specs.declared.records.Place.{Place}
use Rattle.records.specs.declared.records.Inner.{Inner}
use Rattle.records.specs.declared.register.Register.{Register}
use Rattle.records.specs.declared.shape.Shape.{Shape}
use Rattle.records.specs.Bounded.{listed}
use Rattle.records.specs.Held.{held}
use Rattle.records.specs.Records.{TransitionData, TableData, WitnessData, shape_of}
use Rattle.formats.specs.Pieces.{giving}
use Rattle.formats.specs.Tables.{table_at, table_says}
use Rattle.formats.specs.Witnesses.{witness_at, witness_says}
use Rattle.replies.specs.declared.reply.TableRead.{TableRead}
use Rattle.replies.specs.declared.reply.WitnessRead.{WitnessRead}

abbrev pub table_short : TableData → TableRead
table_short t = record {
  values = t.heading.values;
  choices = t.heading.choices;
  start = t.heading.start;
  initial = length t.heading.initial;
  transitions = length t.transitions;
}

abbrev pub witness_short : WitnessData → WitnessRead
witness_short w = record { places = length w.places; inners = length w.inners }

-- the same of what the code holds
abbrev pub heading_short : Heading → ℕ → TableRead
heading_short h count = record { values = h.values; choices = h.choices; start = h.start; initial = length (listed h.initial); transitions = count }

abbrev pub registers_short : Register Place → Register Inner → WitnessRead
registers_short places inners = record { places = length (held places); inners = length (held inners) }

-- bytes read as a table
abbrev pub table_answer : List ℕ → Result TableRead Fault
table_answer bytes = giving (table_says bytes) (table_short (table_at bytes))

-- bytes read as a witness, for a table of these transitions and this shape
abbrev pub witness_by : List TransitionData → Shape → List ℕ → Result WitnessRead Fault
witness_by transitions shape bytes = giving (witness_says transitions shape bytes) (witness_short (witness_at shape bytes))

abbrev pub witness_answer : TableData → List ℕ → Result WitnessRead Fault
witness_answer table bytes = witness_by table.transitions (shape_of table.heading) bytes
