-- Checking a dossier: from its bytes to acceptance or the first fault. A new case is worked by the pieces in turn, each found
-- and worked before the next is looked for; the places of faults are counted from the dossier's first byte.
use Rattle.std.specs.Prelude.{◌≡◌, ℕ, zero, suc, ◌+◌, ◌-◌, ◌*◌, ◌/◌, ◌%◌, Bool, ◌&&◌, List, [], ◌∷◌, length, ℤ, Some, None, Ok, Err, Option, Result, ◌==◌, nat_le}
use Rattle.rows.specs.declared.fault.Fault.{Fault}
use Rattle.rows.specs.declared.fault.FaultKind.TheVariants.{DossierTooLong, DossierPiece, TraceLength, DossierLeftOver}
use Rattle.rows.specs.Bytes.{word_at, number_at}
use Rattle.rows.specs.Faults.{Said, ◌and_then◌, check}
use Rattle.methods.specs.CutLaws.{cut_lawful}
use Rattle.methods.specs.Cuts.{cut_says}
use Rattle.methods.specs.Questions.{Meaning, Lawful}
use Rattle.methods.specs.SplitLaws.{split_lawful}
use Rattle.methods.specs.Splits.{split_says}
use Rattle.methods.specs.Sums.{multipliers_say}
use Rattle.methods.specs.SumsLaws.{multipliers_lawful}
use Rattle.records.specs.declared.shape.Shape.{Shape}
use Rattle.records.specs.Limits.{most_transitions, most_places, most_inners}
use Rattle.records.specs.Records.{TableData, WitnessData, shape_of}
use Rattle.records.specs.Slots.{number_bytes}
use Rattle.formats.specs.Pieces.{each, giving, fault_at, pieces_from, version_says, rest_from, piece_end, piece_at, piece_says}
use Rattle.formats.specs.Tables.{table_at}
use Rattle.formats.specs.Witnesses.{witness_at}
use Rattle.semantics.specs.declared.obligation.Obligation.{Obligation}
use Rattle.semantics.specs.Enumerated.{obligations_of}
use Rattle.cases.specs.Calls.{Call, Open, Admit, Begin, Advance, Prove, Verdict, Reply, told, ran}
use Rattle.cases.specs.Limits.{least_rows}
use Rattle.cases.specs.Model.{Making, Model, Present, empty}
use Rattle.cases.specs.Told.{verdict_told}
use Rattle.cases.specs.Worked.{after, answer, worked}

-- the greatest number of bytes
abbrev pub most_bytes : ℕ
most_bytes = 65536

-- the memory of its case: enough for every table and witness
abbrev pub dossier_making : Making
dossier_making = record { transitions = most_transitions; places = most_places; inners = most_inners }

-- the method that its certificates are put to: split over cut over multipliers
abbrev pub dossier_method : Meaning
dossier_method = split_says (cut_says multipliers_say)

abbrev pub dossier_lawful : Lawful dossier_method
dossier_lawful = split_lawful (cut_says multipliers_say) (cut_lawful multipliers_say multipliers_lawful)

-- what it answers where it is accepted: the place that its trace reached, and the steps made
pub record Reached : Type 0 where
  pub place : ℕ
  pub steps : ℕ

-- one part after another: the first fault counts
infixl 15 ◌and_with◌
abbrev pub ◌and_with◌ : {A B : Type 0} → Result A Fault → (A → Result B Fault) → Result B Fault
Ok x and_with next = next x
Err f and_with next = Err f

-- a fault whose place was counted from an offset on
abbrev pub counted_from : ℕ → Said → Said
counted_from offset (Ok u) = Ok u
counted_from offset (Err f) = Err (record { kind = f.kind; place = f.place + offset; depth = f.depth; item = f.item })

-- whether a call was refused
abbrev pub said_in : Reply → Said
said_in (told said) = said
said_in (ran (Ok u)) = Ok tt
said_in (ran (Err f)) = Err f

-- a call whose argument stands at an offset, and the case after it
abbrev pub call_at : ℕ → Call → Model → Result Model Fault
call_at offset c m = giving (counted_from offset (said_in (answer c m))) (after c m)

-- the case so far, and where the next piece begins
pub record Progress : Type 0 where
  pub model : Model
  pub next : ℕ

-- the next piece is found, then worked by its offset and its rest
abbrev pub by_piece : List ℕ → (ℕ → List ℕ → Model → Result Model Fault) → Progress → Result Progress Fault
by_piece bytes work p =
    piece_says DossierPiece bytes p.next
    and_with (λ u. work p.next (piece_at bytes p.next) p.model)
    and_with (λ m. Ok (record { model = m; next = piece_end bytes p.next }))

-- the table and the witness
abbrev pub table_piece : ℕ → List ℕ → Model → Result Model Fault
table_piece at rest m = call_at (rest_from at) (Open rest) m

abbrev pub witness_piece : ℕ → List ℕ → Model → Result Model Fault
witness_piece at rest m = call_at (rest_from at) (Admit rest) m

-- the trace: where its steps begin, how long a step is, how many there are, and whether its length is that of whole steps
abbrev pub steps_from : Shape → ℕ
steps_from shape = number_bytes * shape.values

abbrev pub step_bytes : Shape → ℕ
step_bytes shape = 2 + number_bytes * shape.choices

abbrev pub steps_in : Shape → List ℕ → ℕ
steps_in shape rest = (length rest - steps_from shape) / step_bytes shape

abbrev pub whole_steps : Shape → List ℕ → Bool
whole_steps shape rest = nat_le (steps_from shape) (length rest) && (length rest - steps_from shape) % step_bytes shape == 0

-- numbers of four bytes, one behind another
abbrev pub numbers_at : List ℕ → ℕ → ℕ → List ℤ
numbers_at rest from n = each (λ i. number_at rest (from + number_bytes * i)) n

-- a step: where it begins in the rest, and its call
abbrev pub step_from : Shape → ℕ → ℕ
step_from shape i = steps_from shape + step_bytes shape * i

abbrev pub step_call : Shape → List ℕ → ℕ → Call
step_call shape rest i = Advance (word_at rest (step_from shape i)) (numbers_at rest (step_from shape i + 2) shape.choices)

-- the first n steps, in their order
abbrev pub steps_worked : Shape → ℕ → List ℕ → ℕ → Model → Result Model Fault
steps_worked shape at rest zero m = Ok m
steps_worked shape at rest (suc n) m = steps_worked shape at rest n m and_with call_at (rest_from at + step_from shape n) (step_call shape rest n)

abbrev pub trace_worked : Shape → ℕ → List ℕ → Model → Result Model Fault
trace_worked shape at rest m =
    check (whole_steps shape rest) (fault_at TraceLength at)
    and_with (λ u. call_at (rest_from at) (Begin (numbers_at rest 0 shape.values)) m)
    and_with steps_worked shape at rest (steps_in shape rest)

-- by the table of the case
abbrev pub shape_in : Option TableData → Shape
shape_in None = record { values = 0; choices = 0 }
shape_in (Some table) = shape_of table.heading

abbrev pub trace_piece : ℕ → List ℕ → Model → Result Model Fault
trace_piece at rest m = trace_worked (shape_in m.table) at rest m

-- a certificate for each obligation of the case
abbrev pub certificate_piece : Obligation → ℕ → List ℕ → Model → Result Model Fault
certificate_piece o at rest m = call_at (rest_from at) (Prove dossier_method dossier_lawful o rest least_rows) m

abbrev pub certificates_worked : List ℕ → List Obligation → Progress → Result Progress Fault
certificates_worked bytes [] p = Ok p
certificates_worked bytes (o ∷ os) p = by_piece bytes (certificate_piece o) p and_with certificates_worked bytes os

abbrev pub obligations_in : Option TableData → Option WitnessData → List Obligation
obligations_in None witness = []
obligations_in (Some table) None = []
obligations_in (Some table) (Some witness) = obligations_of table witness

abbrev pub certificates : List ℕ → Progress → Result Progress Fault
certificates bytes p = certificates_worked bytes (obligations_in p.model.table p.model.witness) p

-- no byte is left, and the verdict decides
abbrev pub reached_in : Option Present → ℕ → Reached
reached_in None steps = record { place = 0; steps = steps }
reached_in (Some present) steps = record { place = present.place; steps = steps }

abbrev pub decided : List ℕ → Progress → Result Reached Fault
decided bytes p =
    check (p.next == length bytes) (fault_at DossierLeftOver p.next)
    and_with (λ u. giving (said_in (answer Verdict p.model)) (reached_in p.model.present p.model.steps))

-- a dossier
abbrev pub at_front : Progress
at_front = record { model = empty dossier_making; next = pieces_from }

abbrev pub front_says : List ℕ → Said
front_says bytes = check (nat_le (length bytes) most_bytes) (fault_at DossierTooLong 0) and_then version_says DossierPiece bytes

unfoldable pub dossier_says : List ℕ → Result Reached Fault
dossier_says bytes =
    front_says bytes
    and_with (λ u. by_piece bytes table_piece at_front)
    and_with by_piece bytes witness_piece
    and_with by_piece bytes trace_piece
    and_with certificates bytes
    and_with decided bytes

-- what it means that a dossier is accepted: its case was worked by calls on the table and the witness of its first two pieces,
-- stands where the answer says, and the verdict on it is accepted
pub record AcceptedCase (bytes : List ℕ) (r : Reached) : Type 0 where
  pub calls : List Call
  pub table : TableData
  pub witness : WitnessData
  pub present : Present
  pub is_table : table ≡ table_at (piece_at bytes pieces_from)
  pub is_witness : witness ≡ witness_at (shape_of table.heading) (piece_at bytes (piece_end bytes pieces_from))
  pub has_table : (worked dossier_making calls).table ≡ Some table
  pub has_witness : (worked dossier_making calls).witness ≡ Some witness
  pub has_present : (worked dossier_making calls).present ≡ Some present
  pub place : present.place ≡ r.place
  pub steps : (worked dossier_making calls).steps ≡ r.steps
  pub accepted : verdict_told (worked dossier_making calls) ≡ Ok tt

abbrev pub AcceptedDossiers : Type 0
AcceptedDossiers = (bytes : List ℕ) (r : Reached) → dossier_says bytes ≡ Ok r → AcceptedCase bytes r
