-- What a witness that fits a table says of its parts: numbers name one transition, place or inner transition each, inner
-- transitions lead from a listed place to a listed place, and the parts are valid.
use Rattle.std.proofs.Common.{◌≡◌, ℕ, true, Some, None, Option, sym, refl, ap, ◌∙◌, subst}
use Rattle.records.specs.declared.shape.Shape.{Shape}
use Rattle.records.specs.Lists.{among}
use Rattle.records.specs.Records.{TransitionData, TableData, PlaceData, InnerData, WitnessData, shape_of}
use Rattle.formats.specs.Valid.{ValidTransition, ValidPlace, ValidInner, PlanFits, InnerFits, place_numbers}
use Rattle.semantics.specs.Laws.{Fitting}
use Rattle.semantics.specs.Obligations.{Known, Listed}
use Rattle.semantics.specs.Plans.{transition_with, inner_with, place_with}
use Rattle.semantics.specs.Runs.{Member, Declared}
use Rattle.semantics.proofs.Members.{all_member, same_some, first_member, among_first, member_first}

-- the places that an inner transition leaves and reaches
pub record Ends (witness : WitnessData) (t : TransitionData) : Type 0 where
  pub from : PlaceData
  pub from_listed : Listed witness t.start from
  pub into : PlaceData
  pub into_listed : Listed witness t.target into

module _ (table : TableData) (witness : WitnessData) (fit : Fitting table witness) where
  abbrev pub shape : Shape
  shape = shape_of table.heading

  -- what has a number is found by it
  pub known_found : (n : ℕ) (t : TransitionData) → Known table n t → transition_with table n ≡ Some t
  known_found n t k = member_first (λ x. x.number) 0 table.transitions t n fit.valid_table.rising k.0 k.1

  pub declared_found : (n : ℕ) (i : InnerData) → Declared witness n i → inner_with witness n ≡ Some i
  declared_found n i d = member_first (λ x. x.number) 0 witness.inners i n fit.valid_witness.inners_rising d.0 d.1

  pub listed_found : (n : ℕ) (p : PlaceData) → Listed witness n p → place_with witness n ≡ Some p
  listed_found n p l = member_first (λ x. x.number) 0 witness.places p n fit.valid_witness.places_rising l.0 l.1

  -- and the other way round
  pub found_known : (n : ℕ) (t : TransitionData) → transition_with table n ≡ Some t → Known table n t
  found_known n t e = first_member (λ x. x.number) n table.transitions t e

  pub found_declared : (n : ℕ) (i : InnerData) → inner_with witness n ≡ Some i → Declared witness n i
  found_declared n i e = first_member (λ x. x.number) n witness.inners i e

  pub found_listed : (n : ℕ) (p : PlaceData) → place_with witness n ≡ Some p → Listed witness n p
  found_listed n p e = first_member (λ x. x.number) n witness.places p e

  -- one inner transition has a number at most
  pub one_inner : (n : ℕ) (i j : InnerData) → Declared witness n i → Declared witness n j → i ≡ j
  one_inner n i j d e = same_some i j (sym (declared_found n i d) ∙ declared_found n j e)

  -- the parts are valid
  pub valid_taken : (t : TransitionData) → Member t table.transitions → ValidTransition shape t
  valid_taken t m = all_member (ValidTransition shape) table.transitions t fit.valid_table.each m

  pub valid_place : (p : PlaceData) → Member p witness.places → ValidPlace shape p
  valid_place p m = all_member (ValidPlace shape) witness.places p fit.valid_witness.places m

  pub valid_inner : (i : InnerData) → Member i witness.inners → ValidInner shape i
  valid_inner i m = all_member (ValidInner shape) witness.inners i fit.valid_witness.inners m

  pub plan_fits : (p : PlaceData) → Member p witness.places → PlanFits table.transitions witness p
  plan_fits p m = all_member (PlanFits table.transitions witness) witness.places p fit.valid_witness.plans_fit m

  -- a number that is among those of the places is that of a listed place
  place_among : (n : ℕ) → among n (place_numbers witness) ≡ true → (p : PlaceData) × Listed witness n p
  place_among n e = let f = among_first (λ (x : PlaceData). x.number) n witness.places e in (f.0, found_listed n f.0 f.1)

  -- an inner transition is known, and its ends are listed
  pub inner_known : (n : ℕ) (i : InnerData) → Declared witness n i → (t : TransitionData) × Known table n t × Ends witness t
  inner_known n i d =
      let f = all_member (InnerFits table.transitions witness) witness.inners i fit.valid_witness.inners_fit d.0 in
      let a = place_among f.0.start f.2 in
      let b = place_among f.0.target f.3 in (
        f.0,
        found_known n f.0 (ap (transition_with table) (sym d.1) ∙ f.1),
        record { from = a.0; from_listed = a.1; into = b.0; into_listed = b.1 },
      )

  pub inner_ends : (n : ℕ) (i : InnerData) (t : TransitionData) → Declared witness n i → Known table n t → Ends witness t
  inner_ends n i t d k =
      let f = inner_known n i d in
      subst (Ends witness) (same_some f.0 t (sym (known_found n f.0 f.1) ∙ known_found n t k)) f.2

  -- a number that no inner transition has is not found
  pub not_found : (n : ℕ) → ((i : InnerData) → Declared witness n i → ⊥) → inner_with witness n ≡ None
  not_found n none = decide (inner_with witness n) refl
    where
      decide : (o : Option InnerData) → inner_with witness n ≡ o → inner_with witness n ≡ None
      decide None e = e
      decide (Some i) e = absurd (none i (found_declared n i e))
