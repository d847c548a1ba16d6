-- An accepted dossier is a case that was worked by calls: each part of the definition that goes on makes calls, and none
-- behind the second piece changes the table or the witness.
use Rattle.std.proofs.Common.{◌≡◌, ℕ, zero, suc, ◌+◌, eqb, List, [], ◌∷◌, ◌++◌, length, ℤ, Some, None, Ok, Err, Option, Result, sym, refl, ap, ◌∙◌, subst, arith}
use Rattle.rows.specs.declared.fault.Fault.{Fault}
use Rattle.rows.specs.declared.fault.FaultKind.TheVariants.{DossierPiece, TraceLength, DossierLeftOver}
use Rattle.rows.specs.Faults.{Said, check}
use Rattle.methods.specs.Questions.{Meaning, Lawful}
use Rattle.records.specs.declared.shape.Shape.{Shape}
use Rattle.records.specs.Records.{shape_of}
use Rattle.formats.specs.Pieces.{giving, fault_at, pieces_from, rest_from, piece_end, piece_at, piece_says}
use Rattle.formats.specs.Tables.{table_at}
use Rattle.formats.specs.Witnesses.{witness_at}
use Rattle.semantics.specs.declared.obligation.Obligation.{Obligation}
use Rattle.cases.specs.Calls.{Call, Open, Admit, Begin, Advance, Prove, Verdict}
use Rattle.cases.specs.Model.{Model, Present, empty}
use Rattle.cases.specs.Told.{needed, open_told, admit_told, verdict_told}
use Rattle.cases.specs.Worked.{done, opened, witness_for, admitted, begun, advanced, marked, after, answer, worked_from, worked}
use Rattle.cases.specs.Dossiers.{◌and_with◌, counted_from, said_in, call_at, Progress, dossier_making, by_piece, table_piece, witness_piece, steps_in, whole_steps, numbers_at, step_from, step_call, steps_worked, trace_worked, shape_in, trace_piece, certificate_piece, certificates_worked, certificates, obligations_in, Reached, reached_in, decided, at_front, front_says, dossier_says, AcceptedCase, AcceptedDossiers}

-- an answer that goes on is no fault
goes_on : {A P : Type 0} (f : Fault) (x : A) → ◌≡◌ {A = Result A Fault} (Err f) (Ok x) → P
goes_on f x e = let z : ◌≡◌ {A = ℕ} 0 1 = cc in absurd (omega arith)

same_ok : {A : Type 0} (x y : A) → ◌≡◌ {A = Result A Fault} (Ok x) (Ok y) → x ≡ y
same_ok x y e = cc

-- the parts of a chain, and of an answer to tests
with_parts : {A B : Type 0} (a : Result A Fault) (next : A → Result B Fault) (y : B) → (a and_with next) ≡ Ok y → (x : A) × (a ≡ Ok x) × (next x ≡ Ok y)
with_parts (Ok x) next y e = (x, refl, e)
with_parts (Err f) next y e = goes_on f y e

giving_parts : {X : Type 0} (said : Said) (x y : X) → giving said x ≡ Ok y → (said ≡ Ok tt) × (x ≡ y)
giving_parts (Ok tt) x y e = (refl, same_ok x y e)
giving_parts (Err f) x y e = goes_on f y e

call_made : (offset : ℕ) (c : Call) (m n : Model) → call_at offset c m ≡ Ok n → after c m ≡ n
call_made offset c m n e = (giving_parts _ (after c m) n e).1

-- calls that lead from one case to another with the same table and witness
record Leads (m n : Model) : Type 0 where
  calls : List Call
  leads : worked_from m calls ≡ n
  same_table : n.table ≡ m.table
  same_witness : n.witness ≡ m.witness

stays : (m : Model) → Leads m m
stays m = record { calls = []; leads = refl; same_table = refl; same_witness = refl }

worked_on : (m : Model) (cs ds : List Call) → worked_from m (cs ++ ds) ≡ worked_from (worked_from m cs) ds
worked_on m [] ds = refl
worked_on m (c ∷ cs) ds = worked_on (after c m) cs ds

goes : (l m n : Model) → Leads l m → Leads m n → Leads l n
goes l m n a b = record {
  calls = a.calls ++ b.calls;
  leads = worked_on l a.calls b.calls ∙ ap (λ x. worked_from x b.calls) a.leads ∙ b.leads;
  same_table = b.same_table ∙ a.same_table;
  same_witness = b.same_witness ∙ a.same_witness;
}

-- one call
record Keeping (c : Call) : Type 0 where
  table : (m : Model) → (after c m).table ≡ m.table
  witness : (m : Model) → (after c m).witness ≡ m.witness

by_call : (offset : ℕ) (c : Call) → Keeping c → (m n : Model) → call_at offset c m ≡ Ok n → Leads m n
by_call offset c keeps m n e =
    let made = call_made offset c m n e in
    record {
      calls = c ∷ [];
      leads = made;
      same_table = ap (λ (x : Model). x.table) (sym made) ∙ keeps.table m;
      same_witness = ap (λ (x : Model). x.witness) (sym made) ∙ keeps.witness m;
    }

done_keeps : {X : Type 0} (part : Model → X) (said : Said) (new old : Model) → part new ≡ part old → part (done said new old) ≡ part old
done_keeps part (Ok u) new old e = e
done_keeps part (Err f) new old e = refl

begin_keeps : (values : List ℤ) → Keeping (Begin values)
unfolding after
begin_keeps values = record { table = λ m. done_keeps (λ x. x.table) _ (begun m values) m refl; witness = λ m. done_keeps (λ x. x.witness) _ (begun m values) m refl }

advance_keeps : (n : ℕ) (choices : List ℤ) → Keeping (Advance n choices)
unfolding after
advance_keeps n choices = record { table = λ m. done_keeps (λ x. x.table) _ (advanced m n choices) m refl; witness = λ m. done_keeps (λ x. x.witness) _ (advanced m n choices) m refl }

prove_keeps : (meaning : Meaning) (lawful : Lawful meaning) (o : Obligation) (certificate : List ℕ) (rows : ℕ) → Keeping (Prove meaning lawful o certificate rows)
unfolding after
prove_keeps meaning lawful o certificate rows = record { table = λ m. done_keeps (λ x. x.table) _ (marked m o) m refl; witness = λ m. done_keeps (λ x. x.witness) _ (marked m o) m refl }

-- the steps of a trace, a trace, and the certificates
by_steps : (shape : Shape) (at : ℕ) (rest : List ℕ) (k : ℕ) (m n : Model) → steps_worked shape at rest k m ≡ Ok n → Leads m n
by_steps shape at rest zero m n e = subst (Leads m) (same_ok m n e) (stays m)
by_steps shape at rest (suc k) m n e =
    let w = with_parts (steps_worked shape at rest k m) (call_at (rest_from at + step_from shape k) (step_call shape rest k)) n e in
    goes m w.0 n (by_steps shape at rest k m w.0 w.1) (by_call (rest_from at + step_from shape k) (step_call shape rest k) (advance_keeps _ _) w.0 n w.2)

by_trace : (shape : Shape) (at : ℕ) (rest : List ℕ) (m n : Model) → trace_worked shape at rest m ≡ Ok n → Leads m n
by_trace shape at rest m n e =
    let begin : Model → Result Model Fault = call_at (rest_from at) (Begin (numbers_at rest 0 shape.values)) in
    let w = with_parts (check (whole_steps shape rest) (fault_at TraceLength at) and_with (λ u. begin m)) (steps_worked shape at rest (steps_in shape rest)) n e in
    let b = with_parts (check (whole_steps shape rest) (fault_at TraceLength at)) (λ u. begin m) w.0 w.1 in
    goes m w.0 n (by_call (rest_from at) (Begin (numbers_at rest 0 shape.values)) (begin_keeps _) m w.0 b.2) (by_steps shape at rest (steps_in shape rest) w.0 n w.2)

-- a piece that was found and worked
piece_parts : (bytes : List ℕ) (work : ℕ → List ℕ → Model → Result Model Fault) (p q : Progress) → by_piece bytes work p ≡ Ok q → (work p.next (piece_at bytes p.next) p.model ≡ Ok q.model) × (q.next ≡ piece_end bytes p.next)
piece_parts bytes work p q e =
    let w = with_parts (piece_says DossierPiece bytes p.next and_with (λ u. work p.next (piece_at bytes p.next) p.model)) (λ m. Ok (record { model = m; next = piece_end bytes p.next })) q e in
    let b = with_parts (piece_says DossierPiece bytes p.next) (λ u. work p.next (piece_at bytes p.next) p.model) w.0 w.1 in
    let s : record { model = w.0; next = piece_end bytes p.next } ≡ q = same_ok _ q w.2 in
    (b.2 ∙ ap Ok (ap (λ (x : Progress). x.model) s), sym (ap (λ (x : Progress). x.next) s))

by_certificates : (bytes : List ℕ) (os : List Obligation) (p q : Progress) → certificates_worked bytes os p ≡ Ok q → Leads p.model q.model
by_certificates bytes [] p q e = subst (λ x. Leads p.model x.model) (same_ok p q e) (stays p.model)
by_certificates bytes (o ∷ os) p q e =
    let w = with_parts (by_piece bytes (certificate_piece o) p) (certificates_worked bytes os) q e in
    let b = piece_parts bytes (certificate_piece o) p w.0 w.1 in
    goes p.model w.0.model q.model (by_call _ _ (prove_keeps _ _ o _ _) p.model w.0.model b.0) (by_certificates bytes os w.0 q w.2)

-- a call that was not refused, whatever its faults are counted from
counted_ok : (offset : ℕ) (said : Said) → counted_from offset said ≡ Ok tt → said ≡ Ok tt
counted_ok offset (Ok tt) e = refl
counted_ok offset (Err f) e = goes_on _ tt e

done_ok : (said : Said) (new old : Model) → said ≡ Ok tt → done said new old ≡ new
done_ok said new old e = ap (λ x. done x new old) e

opened_by : (offset : ℕ) (bytes : List ℕ) (m n : Model) → call_at offset (Open bytes) m ≡ Ok n → opened m bytes ≡ n
unfolding after answer
opened_by offset bytes m n e =
    let g = giving_parts _ (after (Open bytes) m) n e in
    sym (done_ok (open_told m.making bytes) (opened m bytes) m (counted_ok offset (open_told m.making bytes) g.0)) ∙ g.1

admitted_by : (offset : ℕ) (bytes : List ℕ) (m n : Model) → call_at offset (Admit bytes) m ≡ Ok n → admitted m bytes ≡ n
unfolding after answer
admitted_by offset bytes m n e =
    let g = giving_parts _ (after (Admit bytes) m) n e in
    sym (done_ok (admit_told m bytes) (admitted m bytes) m (counted_ok offset (admit_told m bytes) g.0)) ∙ g.1

-- an accepted verdict finds a present state
needed_parts : {A : Type 0} (o : Option A) (f : Fault) (next : A → Said) → needed o f next ≡ Ok tt → (x : A) × (o ≡ Some x) × (next x ≡ Ok tt)
needed_parts None f next e = goes_on f tt e
needed_parts (Some x) f next e = (x, refl, e)

present_in : (m : Model) → verdict_told m ≡ Ok tt → (p : Present) × (m.present ≡ Some p)
unfolding verdict_told
present_in m e =
    let t = needed_parts m.table _ _ e in
    let w = needed_parts m.witness _ _ t.2 in
    let p = needed_parts m.present _ _ w.2 in
    (p.0, p.1)

decided_parts : (bytes : List ℕ) (p : Progress) (r : Reached) → decided bytes p ≡ Ok r → (verdict_told p.model ≡ Ok tt) × (reached_in p.model.present p.model.steps ≡ r)
unfolding answer
decided_parts bytes p r e =
    let w = with_parts (check (eqb p.next (length bytes)) (fault_at DossierLeftOver p.next)) (λ u. giving (said_in (answer Verdict p.model)) (reached_in p.model.present p.model.steps)) r e in
    giving_parts (verdict_told p.model) _ r w.2

-- the parts in their order: behind the table, the witness, the trace and the certificates
accepted_case : (bytes : List ℕ) (r : Reached) (a b c d : Progress) → by_piece bytes table_piece at_front ≡ Ok a → by_piece bytes witness_piece a ≡ Ok b → by_piece bytes trace_piece b ≡ Ok c → certificates bytes c ≡ Ok d → decided bytes d ≡ Ok r → AcceptedCase bytes r
accepted_case bytes r a b c d ea eb ec ed er =
    let pa = piece_parts bytes table_piece at_front a ea in
    let pb = piece_parts bytes witness_piece a b eb in
    let pc = piece_parts bytes trace_piece b c ec in
    let first = piece_at bytes pieces_from in
    let second = piece_at bytes a.next in
    let open' = opened_by _ first (empty dossier_making) a.model pa.0 in
    let admit = admitted_by _ second a.model b.model pb.0 in
    let on = goes b.model c.model d.model (by_trace (shape_in b.model.table) b.next (piece_at bytes b.next) b.model c.model pc.0) (by_certificates bytes (obligations_in c.model.table c.model.witness) c d ed) in
    let at_a : a.model.table ≡ Some (table_at first) = ap (λ (x : Model). x.table) (sym open') in
    let at_b : b.model.table ≡ Some (table_at first) = ap (λ (x : Model). x.table) (sym admit) ∙ at_a in
    let witness_b : b.model.witness ≡ Some (witness_at (shape_of (table_at first).heading) second) = ap (λ (x : Model). x.witness) (sym admit) ∙ ap (λ x. witness_for x second) at_a in
    let v = decided_parts bytes d r er in
    let p = present_in d.model v.0 in
    let is : worked dossier_making (Open first ∷ Admit second ∷ on.calls) ≡ d.model =
    ap (λ x. worked_from (after (Admit second) x) on.calls) (call_made _ (Open first) (empty dossier_making) a.model pa.0)
    ∙ ap (λ x. worked_from x on.calls) (call_made _ (Admit second) a.model b.model pb.0)
    ∙ on.leads in
    record {
      calls = Open first ∷ Admit second ∷ on.calls;
      table = table_at first;
      witness = witness_at (shape_of (table_at first).heading) second;
      present = p.0;
      is_table = refl;
      is_witness = ap (λ n. witness_at (shape_of (table_at first).heading) (piece_at bytes n)) pa.1;
      has_table = ap (λ (x : Model). x.table) is ∙ on.same_table ∙ at_b;
      has_witness = ap (λ (x : Model). x.witness) is ∙ on.same_witness ∙ witness_b;
      has_present = ap (λ (x : Model). x.present) is ∙ p.1;
      place = ap (λ x. (reached_in x d.model.steps).place) (sym p.1) ∙ ap (λ (x : Reached). x.place) v.1;
      steps = ap (λ (x : Model). x.steps) is ∙ ap (λ x. (reached_in x d.model.steps).steps) (sym p.1) ∙ ap (λ (x : Reached). x.steps) v.1;
      accepted = ap verdict_told is ∙ v.0;
    }

pub accepted_dossiers_lem : AcceptedDossiers
unfolding dossier_says
accepted_dossiers_lem bytes r e =
    let opening : Result Progress Fault = front_says bytes and_with (λ u. by_piece bytes table_piece at_front) in
    let d = with_parts (opening and_with by_piece bytes witness_piece and_with by_piece bytes trace_piece and_with certificates bytes) (decided bytes) r e in
    let c = with_parts (opening and_with by_piece bytes witness_piece and_with by_piece bytes trace_piece) (certificates bytes) d.0 d.1 in
    let t = with_parts (opening and_with by_piece bytes witness_piece) (by_piece bytes trace_piece) c.0 c.1 in
    let w = with_parts opening (by_piece bytes witness_piece) t.0 t.1 in
    let o = with_parts (front_says bytes) (λ u. by_piece bytes table_piece at_front) w.0 w.1 in
    accepted_case bytes r w.0 t.0 c.0 d.0 o.2 w.2 t.2 c.2 d.2
