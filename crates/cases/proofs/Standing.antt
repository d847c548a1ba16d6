-- The model has an obligation shown exactly where it stands shown: a prove on it succeeded, and no open or admit did since.
use Rattle.std.proofs.Common.{◌≡◌, ℕ, ◌≤◌, Bool, true, false, cond, ◌&&◌, eqb, leb, ◌⊎◌, List, [], ◌∷◌, ◌++◌, Some, Ok, Err, sym, refl, ap, ◌∙◌, subst, inl, inr}
use Rattle.std.proofs.lemmas.List.{append-nil, append_assoc}
use Rattle.std.proofs.lemmas.Bool.{false≢true, eqb-true, eq-eqb, and_parts, and_from, leb-true, le-leb}
use Rattle.rows.specs.declared.fault.Fault.{Fault}
use Rattle.rows.specs.declared.fault.FaultKind.TheVariants.{ProveWithoutWitness, NoSuchObligation, SheetTooShort}
use Rattle.rows.specs.Faults.{Said, check, ◌and_then◌}
use Rattle.rows.proofs.Chains.{never, both, goes, checked, check_true}
use Rattle.methods.specs.Questions.{Meaning, Lawful, question}
use Rattle.records.specs.Records.{TableData, WitnessData}
use Rattle.semantics.specs.declared.obligation.Obligation.{Obligation}
use Rattle.semantics.specs.declared.obligation.Obligation.TheVariants.{Consecution, Restriction, Guard, Exit}
use Rattle.semantics.specs.Enumerated.{Posed, posed, question_of}
use Rattle.semantics.specs.Laws.{Fitting}
use Rattle.semantics.proofs.Listing.{obligations_agree_lem}
use Rattle.cases.specs.Calls.{Call, Open, Admit, Begin, Advance, Strengthen, Restrict, Prove, Verdict, Unroll}
use Rattle.cases.specs.Limits.{least_rows}
use Rattle.cases.specs.Model.{Making, Model, same, empty}
use Rattle.cases.specs.Told.{bare, open_told, admit_told, begin_told, advance_told, strengthen_told, restrict_told, prove_told}
use Rattle.cases.specs.Worked.{done, opened, admitted, begun, advanced, with_condition, with_restriction, with_witness, marked, after, worked_from, worked}
use Rattle.cases.specs.Promises.{RefusedIfNew, Undisturbed, StandsShown}
use Rattle.cases.proofs.Accepted.{needed_some, needed_from}

-- two numbers that are tested, behind one constructor
pair_is : (f : ℕ → ℕ → Obligation) (n r m s : ℕ) → (eqb n m && eqb r s) ≡ true → f n r ≡ f m s
pair_is f n r m s e =
    let p = and_parts (eqb n m) (eqb r s) e in
    ap (λ (x : ℕ). f x r) (eqb-true n m p.0) ∙ ap (f m) (eqb-true r s p.1)

-- obligations that the test takes for the same are the same
pub same_is : (a b : Obligation) → same a b ≡ true → a ≡ b
same_is (Consecution n r) (Consecution m s) e = pair_is (λ x y. Consecution x y) n r m s e
same_is (Consecution n r) (Restriction m s) e = absurd (false≢true e)
same_is (Consecution n r) (Guard m d s) e = absurd (false≢true e)
same_is (Consecution n r) (Exit m) e = absurd (false≢true e)
same_is (Restriction n r) (Consecution m s) e = absurd (false≢true e)
same_is (Restriction n r) (Restriction m s) e = pair_is (λ x y. Restriction x y) n r m s e
same_is (Restriction n r) (Guard m d s) e = absurd (false≢true e)
same_is (Restriction n r) (Exit m) e = absurd (false≢true e)
same_is (Guard n c r) (Consecution m s) e = absurd (false≢true e)
same_is (Guard n c r) (Restriction m s) e = absurd (false≢true e)
same_is (Guard n c r) (Guard m d s) e =
    let p = and_parts (eqb n m) (eqb c d && eqb r s) e in
    ap (λ (x : ℕ). Guard x c r) (eqb-true n m p.0) ∙ pair_is (λ x y. Guard m x y) c r d s p.1
same_is (Guard n c r) (Exit m) e = absurd (false≢true e)
same_is (Exit n) (Consecution m s) e = absurd (false≢true e)
same_is (Exit n) (Restriction m s) e = absurd (false≢true e)
same_is (Exit n) (Guard m d s) e = absurd (false≢true e)
same_is (Exit n) (Exit m) e = ap (λ (x : ℕ). Exit x) (eqb-true n m e)

-- and each is the same as itself
number_self : (n : ℕ) → eqb n n ≡ true
number_self n = eq-eqb n n refl

pair_self : (n r : ℕ) → (eqb n n && eqb r r) ≡ true
pair_self n r = and_from (eqb n n) (eqb r r) (number_self n) (number_self r)

pub same_self : (a : Obligation) → same a a ≡ true
same_self (Consecution n r) = pair_self n r
same_self (Restriction n r) = pair_self n r
same_self (Guard n c r) = and_from (eqb n n) (eqb c c && eqb r r) (number_self n) (pair_self c r)
same_self (Exit n) = number_self n

-- what is marked is shown
pub marked_shown : (m : Model) (o : Obligation) → (marked m o).shown o ≡ true
marked_shown m o = ap (λ (b : Bool). cond b true (m.shown o)) (same_self o)

-- the parts of a prove that succeeds
pub record ProveParts (m : Model) (meaning : Meaning) (o : Obligation) (certificate : List ℕ) (rows : ℕ) : Type 0 where
  pub table : TableData
  pub witness : WitnessData
  pub has_table : m.table ≡ Some table
  pub has_witness : m.witness ≡ Some witness
  pub asks : Posed
  pub found : question_of table witness o ≡ Some asks
  pub enough : least_rows ≤ rows
  pub yes : meaning (question asks.facts asks.goal certificate rows) ≡ Ok tt

module _ (m : Model) (meaning : Meaning) (o : Obligation) (certificate : List ℕ) (rows : ℕ) where
  -- the tests that come last
  abbrev last_tests : Posed → Said
  last_tests q = check (leb least_rows rows) (bare SheetTooShort) and_then meaning (question q.facts q.goal certificate rows)

  pub prove_parts : prove_told m meaning o certificate rows ≡ Ok tt → ProveParts m meaning o certificate rows
  unfolding prove_told
  prove_parts e =
      let w = needed_some m.witness (bare ProveWithoutWitness) _ e in
      let t = needed_some m.table (bare ProveWithoutWitness) _ w.2 in
      let q = needed_some (question_of t.0 w.0 o) (bare NoSuchObligation) last_tests t.2 in
      let b = both (check (leb least_rows rows) (bare SheetTooShort)) (meaning (question q.0.facts q.0.goal certificate rows)) q.2 in
      record {
        table = t.0;
        witness = w.0;
        has_table = t.1;
        has_witness = w.1;
        asks = q.0;
        found = q.1;
        enough = leb-true least_rows rows (check_true (leb least_rows rows) (bare SheetTooShort) b.0);
        yes = b.1;
      }

  pub prove_from : ProveParts m meaning o certificate rows → prove_told m meaning o certificate rows ≡ Ok tt
  unfolding prove_told
  prove_from p =
      needed_from m.witness (bare ProveWithoutWitness) _ p.witness p.has_witness
      (needed_from m.table (bare ProveWithoutWitness) _ p.table p.has_table
      (needed_from (question_of p.table p.witness o) (bare NoSuchObligation) last_tests p.asks p.found
      (sym (goes (check (leb least_rows rows) (bare SheetTooShort)) (meaning (question p.asks.facts p.asks.goal certificate rows)) (Ok tt)
      (checked (leb least_rows rows) (bare SheetTooShort) (le-leb least_rows rows p.enough))
      (sym p.yes)))))

-- the call is a prove on the obligation, and it succeeds
pub record ProvedBy (c : Call) (m : Model) (o : Obligation) : Type 0 where
  pub meaning : Meaning
  pub lawful : Lawful meaning
  pub certificate : List ℕ
  pub rows : ℕ
  pub call_is : c ≡ Prove meaning lawful o certificate rows
  pub said : prove_told m meaning o certificate rows ≡ Ok tt

-- what a call does to an obligation's mark: it leaves it, and is no open or admit that succeeds; it is one, and clears
-- it; or it is a prove on the obligation that succeeds
pub data Effect (c : Call) (m : Model) (o : Obligation) : Type 0 where
  leaves : (after c m).shown o ≡ m.shown o → RefusedIfNew c m → Effect c m o
  clears : (after c m).shown o ≡ false → (RefusedIfNew c m → ⊥) → Effect c m o
  proves : (after c m).shown o ≡ true → ProvedBy c m o → Effect c m o

-- a call whose new model has the marks of the old one
leaving : (c : Call) (m : Model) (o : Obligation) (s : Said) (new : Model) → after c m ≡ done s new m → new.shown o ≡ m.shown o → RefusedIfNew c m → Effect c m o
leaving c m o s new is e r = leaves (ap (λ (x : Model). x.shown o) is ∙ from s) r
  where
    from : (t : Said) → (done t new m).shown o ≡ m.shown o
    from (Ok tt) = e
    from (Err f) = refl

-- a call whose new model has none
clearing : (c : Call) (m : Model) (o : Obligation) (s : Said) (new : Model) → after c m ≡ done s new m → new.shown o ≡ false → ((f : Fault) × (s ≡ Err f) → RefusedIfNew c m) → (RefusedIfNew c m → (f : Fault) × (s ≡ Err f)) → Effect c m o
clearing c m o (Ok tt) new is e to from = clears (ap (λ (x : Model). x.shown o) is ∙ e) (λ r. let f = from r in never f.0 (sym f.1))
clearing c m o (Err f) new is e to from = leaves (ap (λ (x : Model). x.shown o) is) (to (f, refl))

-- a prove
proving : (m : Model) (meaning : Meaning) (lawful : Lawful meaning) (asked : Obligation) (certificate : List ℕ) (rows : ℕ) (o : Obligation) (s : Said) → prove_told m meaning asked certificate rows ≡ s → after (Prove meaning lawful asked certificate rows) m ≡ done s (marked m asked) m → Effect (Prove meaning lawful asked certificate rows) m o
proving m meaning lawful asked certificate rows o (Err f) e is = leaves (ap (λ (x : Model). x.shown o) is) tt
proving m meaning lawful asked certificate rows o (Ok tt) e is = from (same asked o) refl (ap (λ (x : Model). x.shown o) is)
  where
    from : (b : Bool) → same asked o ≡ b → (after (Prove meaning lawful asked certificate rows) m).shown o ≡ cond b true (m.shown o) → Effect (Prove meaning lawful asked certificate rows) m o
    from false t k = leaves k tt
    from true t k =
        proves k (record {
          meaning = meaning;
          lawful = lawful;
          certificate = certificate;
          rows = rows;
          call_is = ap (λ x. Prove meaning lawful x certificate rows) (same_is asked o t);
          said = subst (λ x. prove_told m meaning x certificate rows ≡ Ok tt) (same_is asked o t) e;
        })

pub effect : (c : Call) (m : Model) (o : Obligation) → Effect c m o
unfolding after
effect (Open bytes) m o = clearing (Open bytes) m o (open_told m.making bytes) (opened m bytes) refl refl (λ r. r) (λ r. r)
effect (Admit bytes) m o = clearing (Admit bytes) m o (admit_told m bytes) (admitted m bytes) refl refl (λ r. r) (λ r. r)
effect (Begin values) m o = leaving (Begin values) m o (begin_told m values) (begun m values) refl refl tt
effect (Advance n choices) m o = leaving (Advance n choices) m o (advance_told m n choices) (advanced m n choices) refl refl tt
effect (Strengthen place numbers) m o =
    leaving (Strengthen place numbers) m o (strengthen_told m place numbers) (with_witness m (with_condition m.table m.witness place numbers)) refl refl tt
effect (Restrict n numbers) m o =
    leaving (Restrict n numbers) m o (restrict_told m n numbers) (with_witness m (with_restriction m.table m.witness n numbers)) refl refl tt
effect (Prove meaning lawful asked certificate rows) m o =
    proving m meaning lawful asked certificate rows o (prove_told m meaning asked certificate rows) refl refl
effect Verdict m o = leaves refl tt
effect (Unroll n room) m o = leaves refl tt

-- an obligation that is shown after a call was shown before, and the call is no open or admit that succeeds; or the call
-- is a prove on it that succeeds
pub after_shown : (c : Call) (m : Model) (o : Obligation) → (after c m).shown o ≡ true → ((m.shown o ≡ true) × RefusedIfNew c m) ⊎ ProvedBy c m o
after_shown c m o h =
    elim (effect c m o) [ leaves e r ↦ inl (sym e ∙ h, r) | clears e n ↦ absurd (false≢true (sym e ∙ h)) | proves e b ↦ inr b ]

-- what is shown stays shown over a call that is no open or admit that succeeds
pub after_keeps : (c : Call) (m : Model) (o : Obligation) → RefusedIfNew c m → m.shown o ≡ true → (after c m).shown o ≡ true
after_keeps c m o r h = elim (effect c m o) [ leaves e q ↦ e ∙ h | clears e n ↦ absurd (n r) | proves e b ↦ e ]

-- a prove that succeeded shows its obligation
proved_shown : (m : Model) (meaning : Meaning) (lawful : Lawful meaning) (o : Obligation) (certificate : List ℕ) (rows : ℕ) → prove_told m meaning o certificate rows ≡ Ok tt → (after (Prove meaning lawful o certificate rows) m).shown o ≡ true
unfolding after
proved_shown m meaning lawful o certificate rows e = ap (λ (s : Said). (done s (marked m o) m).shown o) e ∙ marked_shown m o

-- what is shown stays shown over calls that are no open or admit that succeeds
calls_keep : (cs : List Call) (m : Model) (o : Obligation) → Undisturbed m cs → m.shown o ≡ true → (worked_from m cs).shown o ≡ true
calls_keep [] m o u h = h
calls_keep (c ∷ cs) m o u h = calls_keep cs (after c m) o u.1 (after_keeps c m o u.0 h)

-- calls one after another
pub worked_append : (m : Model) (cs ds : List Call) → worked_from m (cs ++ ds) ≡ worked_from (worked_from m cs) ds
worked_append m [] ds = refl
worked_append m (c ∷ cs) ds = worked_append (after c m) cs ds

-- one such call more
undisturbed_more : (m : Model) (cs : List Call) (c : Call) → Undisturbed m cs → RefusedIfNew c (worked_from m cs) → Undisturbed m (cs ++ c ∷ [])
undisturbed_more m [] c u r = (r, tt)
undisturbed_more m (x ∷ cs) c u r = (u.0, undisturbed_more (after x m) cs c u.1 r)

-- the witness fits the table after any calls
abbrev pub AlwaysFits : Making → Type 0
AlwaysFits making = (cs : List Call) (t : TableData) (w : WitnessData) → (worked making cs).table ≡ Some t → (worked making cs).witness ≡ Some w → Fitting t w

module _ (making : Making) (fits : AlwaysFits making) where
  -- the last call is a prove on the obligation that succeeds
  stands_now : (earlier : List Call) (c : Call) (o : Obligation) → ProvedBy c (worked making earlier) o → StandsShown making (earlier ++ c ∷ []) o
  stands_now earlier c o b =
      let p = prove_parts (worked making earlier) b.meaning o b.certificate b.rows b.said in
      record {
        earlier = earlier;
        later = [];
        meaning = b.meaning;
        lawful = b.lawful;
        certificate = b.certificate;
        rows = b.rows;
        calls_are = ap (λ x. earlier ++ x ∷ []) b.call_is;
        then = record { table = p.table; witness = p.witness; has_table = p.has_table; has_witness = p.has_witness };
        facts = p.asks.facts;
        goal = p.asks.goal;
        posed = (obligations_agree_lem p.table p.witness (fits earlier p.table p.witness p.has_table p.has_witness)).asks o p.asks.facts p.asks.goal p.found;
        enough = p.enough;
        yes = p.yes;
        undisturbed = tt;
      }

  -- the model after calls that end in later ones
  worked_since : (calls earlier later : List Call) (c : Call) → calls ≡ earlier ++ c ∷ later → worked making calls ≡ worked_from (after c (worked making earlier)) later
  worked_since calls earlier later c e = ap (worked making) e ∙ worked_append (empty making) earlier (c ∷ later)

  -- an obligation that stands shown does so after a call that is no open or admit that succeeds
  stands_on : (calls : List Call) (c : Call) (o : Obligation) → StandsShown making calls o → RefusedIfNew c (worked making calls) → StandsShown making (calls ++ c ∷ []) o
  stands_on calls c o s r =
      let by = Prove s.meaning s.lawful o s.certificate s.rows in
      record {
        earlier = s.earlier;
        later = s.later ++ c ∷ [];
        meaning = s.meaning;
        lawful = s.lawful;
        certificate = s.certificate;
        rows = s.rows;
        calls_are = ap (λ x. x ++ c ∷ []) s.calls_are ∙ append_assoc s.earlier (by ∷ s.later) (c ∷ []);
        then = s.then;
        facts = s.facts;
        goal = s.goal;
        posed = s.posed;
        enough = s.enough;
        yes = s.yes;
        undisturbed = undisturbed_more (after by (worked making s.earlier)) s.later c s.undisturbed (subst (RefusedIfNew c) (worked_since calls s.earlier s.later by s.calls_are) r);
      }

  -- one call more
  stands_after : (calls : List Call) (c : Call) (o : Obligation) → ((worked making calls).shown o ≡ true → StandsShown making calls o) → (worked making (calls ++ c ∷ [])).shown o ≡ true → StandsShown making (calls ++ c ∷ []) o
  stands_after calls c o before h =
      elim (after_shown c (worked making calls) o (sym (ap (λ (x : Model). x.shown o) (worked_append (empty making) calls (c ∷ []))) ∙ h)) [
        | inl k ↦ stands_on calls c o (before k.0) k.1
        | inr b ↦ stands_now calls c o b
      ]

  -- any number of calls more
  stands_along : (more calls : List Call) (o : Obligation) → ((worked making calls).shown o ≡ true → StandsShown making calls o) → (worked making (calls ++ more)).shown o ≡ true → StandsShown making (calls ++ more) o
  stands_along [] calls o before h =
      subst (λ cs. StandsShown making cs o) (sym (append-nil calls)) (before (subst (λ cs. (worked making cs).shown o ≡ true) (append-nil calls) h))
  stands_along (c ∷ more) calls o before h =
      let e = append_assoc calls (c ∷ []) more in
      subst (λ cs. StandsShown making cs o) e (stands_along more (calls ++ c ∷ []) o (stands_after calls c o before) (subst (λ cs. (worked making cs).shown o ≡ true) (sym e) h))

  pub shown_stands : (calls : List Call) (o : Obligation) → (worked making calls).shown o ≡ true → StandsShown making calls o
  shown_stands calls o h = stands_along calls [] o (λ k. absurd (false≢true k)) h

  -- the prove of an obligation that stands shown succeeded
  stands_proved : (calls : List Call) (o : Obligation) (s : StandsShown making calls o) → prove_told (worked making s.earlier) s.meaning o s.certificate s.rows ≡ Ok tt
  stands_proved calls o s =
      prove_from (worked making s.earlier) s.meaning o s.certificate s.rows (record {
        table = s.then.table;
        witness = s.then.witness;
        has_table = s.then.has_table;
        has_witness = s.then.has_witness;
        asks = posed s.facts s.goal;
        found = (obligations_agree_lem s.then.table s.then.witness (fits s.earlier s.then.table s.then.witness s.then.has_table s.then.has_witness)).asked o s.facts s.goal s.posed;
        enough = s.enough;
        yes = s.yes;
      })

  pub stands_shown : (calls : List Call) (o : Obligation) → StandsShown making calls o → (worked making calls).shown o ≡ true
  stands_shown calls o s =
      let by = Prove s.meaning s.lawful o s.certificate s.rows in
      let m = worked making s.earlier in
      ap (λ (x : Model). x.shown o) (worked_since calls s.earlier s.later by s.calls_are)
      ∙ calls_keep s.later (after by m) o s.undisturbed (proved_shown m s.meaning s.lawful o s.certificate s.rows (stands_proved calls o s))
