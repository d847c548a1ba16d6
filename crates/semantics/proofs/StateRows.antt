-- Rows over the values alone: the choices of a point do not count for them. And what follows from facts.
use Rattle.std.proofs.Common.{◌≡◌, ◌+◌, List, length, get_or, ℤ, pos, ◌+ℤ◌, ◌*ℤ◌, ◌≤ℤ◌, sym, ap, ◌∙◌, subst, arith}
use lib.IntN.{+ℤ_idr, zero-*ℤ}
use Rattle.std.proofs.lemmas.Int.{ints}
use Rattle.std.specs.List.{AllByRecursion}
use Rattle.rows.specs.declared.numbers.Numbers.{Numbers}
use Rattle.rows.specs.Shapes.{dot, Meets, MeetsAll}
use Rattle.records.specs.declared.shape.Shape.{Shape}
use Rattle.records.specs.Limits.{most_values, most_choices}
use Rattle.records.specs.Slots.{over_values}
use Rattle.formats.specs.Valid.{StoredRow}
use Rattle.semantics.specs.Goals.{impossible}
use Rattle.semantics.specs.Laws.{FactsAdd}
use Rattle.semantics.specs.Vectors.{point_of, at_rest, Holds}
use Rattle.semantics.proofs.Members.{all_member, all_from_members}
use Rattle.semantics.proofs.Points.{dot_zeros, values_part, choices_part, dot_point, dot_rest}
use Rattle.semantics.proofs.Sums.{sum_same, sum_zero}

-- a row over the values
module _ (shape : Shape) (row : Numbers) (stored : StoredRow (over_values shape) row) (state choices : List ℤ) (sized : length state ≡ most_values) where
  choices_nothing : choices_part row.coefficients choices ≡ pos 0
  choices_nothing =
      sum_same most_choices _ (λ l. pos 0) (λ l h. ap (λ (z : ℤ). z *ℤ get_or choices l (pos 0)) (stored.other_choices (most_values + l) (omega arith) (omega arith)) ∙ zero-*ℤ (get_or choices l (pos 0)))
      ∙ sum_zero most_choices

  same_sum : dot row.coefficients (point_of state choices) ≡ dot row.coefficients (at_rest state)
  same_sum =
      dot_point row.coefficients state choices sized
      ∙ ap (λ (z : ℤ). values_part row.coefficients state +ℤ z) choices_nothing
      ∙ +ℤ_idr (values_part row.coefficients state)
      ∙ sym (dot_rest row.coefficients state sized)

  pub meets_with : Meets (at_rest state) row → Meets (point_of state choices) row
  meets_with m = subst (λ (z : ℤ). z ≤ℤ row.bound) (sym same_sum) m

-- rows that a state meets are met with any choices
pub holds_with :
    (shape : Shape) (rows : List Numbers) → AllByRecursion (StoredRow (over_values shape)) rows → (state choices : List ℤ) → length state ≡ most_values → Holds state rows → MeetsAll (point_of state choices) rows
holds_with shape rows stored state choices sized met =
    all_from_members (Meets (point_of state choices)) rows
    (λ row m. meets_with shape row (all_member (StoredRow (over_values shape)) rows row stored m) state choices sized (all_member (Meets (at_rest state)) rows row met m))

-- no point meets the impossible row
pub never_met : (point : List ℤ) → Meets point impossible → ⊥
never_met point m = let e = dot_zeros point in omega (arith, ints, e)

-- what follows from facts follows from more of them
pub follows_more : FactsAdd
follows_more facts more goal f among point met = f point (all_from_members (Meets point) facts (λ fact m. all_member (Meets point) more fact met (among fact m)))
