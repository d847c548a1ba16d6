use Rattle.std.proofs.Common.{◌≡◌, ℕ, Bool, true, false, ◌||◌, cond, eqb, refl, ap, ◌∙◌}
use Rattle.std.specs.List.{list_any}
use Rattle.std.proofs.lemmas.List.Recursion.{same_from_clauses}
use Rattle.records.specs.Bounded.{listed}
use Rattle.records.specs.Lists.{among}
use Rattle.sequences.proofs.references.contains.Goals as goal

or_cond : (b r : Bool) → (b || r) ≡ cond b true r
or_cond true r = refl
or_cond false r = refl

pub returns : goal.returns
returns g c =
    let n = c.args.number in
    c.contains.ensures.value
    ∙ ap (list_any (λ (y : ℕ). eqb y n)) c.as_slice.ensures
    ∙ same_from_clauses (list_any (λ (y : ℕ). eqb y n)) (among n) (λ (y : ℕ) (r : Bool). cond (eqb y n) true r) refl (λ x xs. or_cond (eqb x n) (list_any (λ (y : ℕ). eqb y n) xs)) (λ _ _. refl) (listed c.args.numbers.now)
