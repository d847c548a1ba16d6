-- What the code puts together as the short form of a table or a witness is that of what it read.
use Rattle.std.proofs.Common.{◌≡◌, ℕ, List, map, length, sym, refl, ap, ◌∙◌}
use Rattle.std.proofs.lemmas.List.{length-map}
use Rattle.records.specs.declared.heading.Heading.{Heading}
use Rattle.records.specs.declared.records.Transition.{Transition}
use Rattle.records.specs.declared.records.Place.{Place}
use Rattle.records.specs.declared.records.Inner.{Inner}
use Rattle.records.specs.declared.register.Register.{Register}
use Rattle.records.specs.Bounded.{listed}
use Rattle.records.specs.Held.{held}
use Rattle.records.specs.Records.{HeadingData, TableData, WitnessData, row_of, heading_of, transition_of, place_record_of, inner_of}
use Rattle.tables.specs.Short.{table_short, witness_short, heading_short, registers_short}

-- as many as were read
counted : {T X : Type 0} (plain : T → X) (ts : List T) (xs : List X) (n : ℕ) → map plain ts ≡ xs → n ≡ length ts → n ≡ length xs
counted plain ts xs n e h = h ∙ sym (length-map ts plain) ∙ ap length e

pub table_short_lem : (h : Heading) (ts : List Transition) (t : TableData) (n : ℕ) → heading_of h ≡ t.heading → map transition_of ts ≡ t.transitions → n ≡ length ts → heading_short h n ≡ table_short t
table_short_lem h ts t n e m hn =
    let rows = counted row_of (listed h.initial) t.heading.initial _ (ap (λ (d : HeadingData). d.initial) e) refl in
    let count = counted transition_of ts t.transitions n m hn in
    λ j. record { values = (e j).values; choices = (e j).choices; start = (e j).start; initial = rows j; transitions = count j }

pub witness_short_lem : (places : Register Place) (inners : Register Inner) (w : WitnessData) → map place_record_of (held places) ≡ w.places → map inner_of (held inners) ≡ w.inners → registers_short places inners ≡ witness_short w
witness_short_lem places inners w e m =
    let p = counted place_record_of (held places) w.places _ e refl in
    let i = counted inner_of (held inners) w.inners _ m refl in
    λ j. record { places = p j; inners = i j }
