-- The list of obligations that is computed has exactly those of the relation.
use Rattle.std.proofs.Common.{◌≡◌, ℕ, ◌+◌, ◌<◌, cond, not, ◌&&◌, List, [], ◌∷◌, ◌++◌, map, length, is_some, Some, None, Option, sym, refl, ap, ◌∙◌, subst, subst₂, inl, inr, arith}
use Rattle.std.specs.List.{range_with_len}
use Rattle.rows.specs.declared.numbers.Numbers.{Numbers}
use Rattle.records.specs.Records.{TransitionData, TableData, PlaceData, InnerData, WitnessData}
use Rattle.semantics.specs.declared.obligation.Obligation.{Obligation}
use Rattle.semantics.specs.declared.obligation.Obligation.TheVariants.{Consecution, Restriction, Guard, Exit}
use Rattle.semantics.specs.Enumerated.{given, entry_transition, entry_facts, gathered, condition_rows, guard_rows, consecutions_of, restrictions_of, guards_at, guards_of, exits_of, obligations_of}
use Rattle.semantics.specs.Goals.{after_update, with_choices, impossible}
use Rattle.semantics.specs.Laws.{Fitting, ObligationsAgree}
use Rattle.semantics.specs.Obligations.{Entry, tested, final, Known, Listed, ObligationOf}
use Rattle.semantics.specs.Plans.{transition_with, inner_with, place_with}
use Rattle.semantics.specs.Runs.{Member}
use Rattle.semantics.proofs.Gathering.{at_within, within_at, member_left, member_right, member_either, member_gathered, gathered_member, member_counting, member_each, each_member}
use Rattle.semantics.proofs.Lookups.{known_found, declared_found, listed_found, found_known, found_listed, inner_known, not_found}
use Rattle.semantics.proofs.Members.{none_some}
use Rattle.semantics.proofs.Questions.{given_parts, given_is, entry_from_lem, entry_to, asks_posed, posed_asked}

-- a row of something that is found
guard_row : (o : Option TransitionData) (r : ℕ) → r < guard_rows o → (t : TransitionData) × (o ≡ Some t) × (r < length t.guard)
guard_row None r l = absurd (omega arith)
guard_row (Some t) r l = (t, refl, l)

-- the entries of a plan are numbered up to the last
entry_within : (p : PlaceData) (e n : ℕ) (facts : List Numbers) → Entry p e n facts → e < length p.tested + 1
entry_within p e n facts (tested entry a number is) = let l = at_within p.tested e entry a in omega arith
entry_within p e n facts (final index number is) = omega arith

module _ (table : TableData) (witness : WitnessData) (fit : Fitting table witness) where
  -- how many rows there are for an inner transition
  target_rows_lem : (n : ℕ) (t : TransitionData) (q : PlaceData) → Known table n t → Listed witness t.target q → condition_rows (given (transition_with table n) (λ x. place_with witness x.target)) ≡ length q.condition
  target_rows_lem n t q k l =
      ap condition_rows (given_is (transition_with table n) (λ x. place_with witness x.target) t (known_found table witness fit n t k) ∙ listed_found table witness fit t.target q l)

  list_consecution : (o : Obligation) → Member o (gathered (consecutions_of table witness) witness.inners) → ObligationOf table witness o
  list_consecution o m =
      let g = gathered_member (consecutions_of table witness) witness.inners o m in
      let i = g.0 in
      let r = each_member (Consecution i.number) _ o g.2 in
      let k = inner_known table witness fit i.number i (g.1, refl) in
      let t = k.0 in
      let q = k.2.into in
      let p = k.2.from in
      let c = target_rows_lem i.number t q k.1 k.2.into_listed in
      let row = within_at q.condition r.0 (subst (λ (x : ℕ). r.0 < x) c r.1) in
      subst (ObligationOf table witness) r.2 (
        p.condition ++ (t.guard ++ i.restrictions),
        after_update t row.0,
        record {
          taken = t;
          inner = i;
          from = p;
          into = q;
          row = row.0;
          known = k.1;
          declared = (g.1, refl);
          from_listed = k.2.from_listed;
          into_listed = k.2.into_listed;
          row_is = row.1;
          facts_are = refl;
          goal_is = refl;
        },
      )

  list_restriction : (o : Obligation) → Member o (gathered restrictions_of witness.inners) → ObligationOf table witness o
  list_restriction o m =
      let g = gathered_member restrictions_of witness.inners o m in
      let i = g.0 in
      let r = each_member (Restriction i.number) (length i.restrictions) o g.2 in
      let k = inner_known table witness fit i.number i (g.1, refl) in
      let t = k.0 in
      let p = k.2.from in
      let row = within_at i.restrictions r.0 r.1 in
      subst (ObligationOf table witness) r.2 (
        p.condition ++ t.guard,
        with_choices i row.0,
        record {
          taken = t;
          inner = i;
          from = p;
          row = row.0;
          known = k.1;
          declared = (g.1, refl);
          from_listed = k.2.from_listed;
          row_is = row.1;
          facts_are = refl;
          goal_is = refl;
        },
      )

  list_guard : (o : Obligation) → Member o (gathered (guards_of table) witness.places) → ObligationOf table witness o
  list_guard o m =
      let g = gathered_member (guards_of table) witness.places o m in
      let p = g.0 in
      let h = gathered_member (guards_at table p) (range_with_len 0 (length p.tested + 1)) o g.2 in
      let e = h.0 in
      let r = each_member (Guard p.number e) (guard_rows (given (entry_transition p e) (transition_with table))) o h.2 in
      let f = guard_row (given (entry_transition p e) (transition_with table)) r.0 r.1 in
      let t = f.0 in
      let n = given_parts (entry_transition p e) (transition_with table) t f.1 in
      let row = within_at t.guard r.0 f.2 in
      subst (ObligationOf table witness) r.2 (
        p.condition ++ entry_facts p e,
        row.0,
        record {
          from = p;
          number = n.0;
          reached = entry_facts p e;
          taken = t;
          from_listed = (g.1, refl);
          entry = entry_from_lem p e n.0 n.1;
          known = found_known table witness fit n.0 t n.2;
          row_is = row.1;
          facts_are = refl;
        },
      )

  list_exit : (o : Obligation) → Member o (gathered (exits_of witness) table.transitions) → ObligationOf table witness o
  list_exit o m = let g = gathered_member (exits_of witness) table.transitions o m in from g.0 g.1 (place_with witness g.0.start) refl (inner_with witness g.0.number) refl g.2
    where
      from : (t : TransitionData) → Member t table.transitions → (a : Option PlaceData) → place_with witness t.start ≡ a → (b : Option InnerData) → inner_with witness t.number ≡ b → Member o (cond (is_some a && not (is_some b)) (Exit t.number ∷ []) []) → ObligationOf table witness o
      from t k None e b f h = absurd h
      from t k (Some p) e (Some i) f h = absurd h
      from t k (Some p) e None f (inr h) = absurd h
      from t k (Some p) e None f (inl h) =
          subst (ObligationOf table witness) h (
            p.condition ++ t.guard,
            impossible,
            record {
              taken = t;
              from = p;
              known = (k, refl);
              not_inner = λ i d. none_some i (sym f ∙ declared_found table witness fit t.number i d);
              from_listed = found_listed table witness fit t.start p e;
              facts_are = refl;
              goal_is = refl;
            },
          )

  pub list_posed : (o : Obligation) → Member o (obligations_of table witness) → ObligationOf table witness o
  unfolding obligations_of
  list_posed o m =
      elim (member_either (gathered (consecutions_of table witness) witness.inners) _ o m) [
        | inl a ↦ list_consecution o a
        | inr b ↦
            elim (member_either (gathered restrictions_of witness.inners) _ o b) [
              | inl a ↦ list_restriction o a
              | inr c ↦ elim (member_either (gathered (guards_of table) witness.places) _ o c) [ inl a ↦ list_guard o a | inr d ↦ list_exit o d ]
            ]
      ]

  -- and the other way round
  consecution_listed : (n r : ℕ) → ObligationOf table witness (Consecution n r) → Member (Consecution n r) (gathered (consecutions_of table witness) witness.inners)
  consecution_listed n r x =
      let c = x.2 in
      let l = at_within c.into.condition r c.row c.row_is in
      let e = target_rows_lem n c.taken c.into c.known c.into_listed in
      let i = c.inner in
      member_gathered (consecutions_of table witness) witness.inners i (Consecution n r) c.declared.0 (subst (λ (k : ℕ). Member (Consecution n r) (map (Consecution k) (range_with_len 0 (condition_rows (given (transition_with table k) (λ t. place_with witness t.target)))))) (sym c.declared.1) (member_each (Consecution n) _ r (subst (λ (k : ℕ). r < k) (sym e) l)))

  restriction_listed : (n r : ℕ) → ObligationOf table witness (Restriction n r) → Member (Restriction n r) (gathered restrictions_of witness.inners)
  restriction_listed n r x =
      let c = x.2 in
      let l = at_within c.inner.restrictions r c.row c.row_is in
      member_gathered restrictions_of witness.inners c.inner (Restriction n r) c.declared.0 (subst (λ (k : ℕ). Member (Restriction n r) (map (Restriction k) (range_with_len 0 (length c.inner.restrictions)))) (sym c.declared.1) (member_each (Restriction n) (length c.inner.restrictions) r l))

  guard_listed : (place e r : ℕ) → ObligationOf table witness (Guard place e r) → Member (Guard place e r) (gathered (guards_of table) witness.places)
  guard_listed place e r x =
      let c = x.2 in
      let p = c.from in
      let l = at_within c.taken.guard r x.1 c.row_is in
      let w = entry_within p e c.number c.reached c.entry in
      let t = (entry_to p e c.number c.reached c.entry).0 in
      let rows = ap guard_rows (given_is (entry_transition p e) (transition_with table) c.number t ∙ known_found table witness fit c.number c.taken c.known) in
      let h = member_each (Guard p.number e) _ r (subst (λ (k : ℕ). r < k) (sym rows) l) in
      member_gathered (guards_of table) witness.places p (Guard place e r) c.from_listed.0 (member_gathered (guards_at table p) (range_with_len 0 (length p.tested + 1)) e (Guard place e r) (member_counting 0 (length p.tested + 1) e (omega arith) (omega arith)) (subst (λ (k : ℕ). Member (Guard k e r) (guards_at table p e)) c.from_listed.1 h))

  exit_listed : (n : ℕ) → ObligationOf table witness (Exit n) → Member (Exit n) (gathered (exits_of witness) table.transitions)
  exit_listed n x =
      let c = x.2 in
      let t = c.taken in
      let e = listed_found table witness fit t.start c.from c.from_listed in
      let f = ap (inner_with witness) c.known.1 ∙ not_found table witness fit n c.not_inner in
      member_gathered (exits_of witness) table.transitions t (Exit n) c.known.0 (subst₂ (λ (a : Option PlaceData) (b : Option InnerData). Member (Exit n) (cond (is_some a && not (is_some b)) (Exit t.number ∷ []) [])) (sym e) (sym f) (inl (ap Exit c.known.1)))

  pub posed_listed : (o : Obligation) → ObligationOf table witness o → Member o (obligations_of table witness)
  unfolding obligations_of
  posed_listed (Consecution n r) x = member_left (gathered (consecutions_of table witness) witness.inners) _ (Consecution n r) (consecution_listed n r x)
  posed_listed (Restriction n r) x =
      member_right (gathered (consecutions_of table witness) witness.inners) _ (Restriction n r) (member_left (gathered restrictions_of witness.inners) _ (Restriction n r) (restriction_listed n r x))
  posed_listed (Guard place e r) x =
      member_right (gathered (consecutions_of table witness) witness.inners) _ (Guard place e r) (member_right (gathered restrictions_of witness.inners) _ (Guard place e r) (member_left (gathered (guards_of table) witness.places) _ (Guard place e r) (guard_listed place e r x)))
  posed_listed (Exit n) x =
      member_right (gathered (consecutions_of table witness) witness.inners) _ (Exit n) (member_right (gathered restrictions_of witness.inners) _ (Exit n) (member_right (gathered (guards_of table) witness.places) _ (Exit n) (exit_listed n x)))

pub obligations_agree_lem : ObligationsAgree
obligations_agree_lem table witness fit =
    record {
      asks = λ o facts goal e. asks_posed table witness fit o facts goal e;
      asked = λ o facts goal p. posed_asked table witness fit o facts goal p;
      lists = λ o m. list_posed table witness fit o m;
      listed = λ o x. posed_listed table witness fit o x;
    }
