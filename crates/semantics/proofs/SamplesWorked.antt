-- The definitions of updates, plans and obligations compute: the worked examples.
use Rattle.std.proofs.Common.{◌≡◌, refl, ap, ◌∙◌, inl, inr, arith}
use Rattle.rows.specs.Shapes.{dot}
use Rattle.records.specs.Records.{InnerData}
use Rattle.semantics.specs.Enumerated.{question_of}
use Rattle.semantics.specs.Samples.{exchanging, sample_place, sample_inner, sample_witness, WorkedSteps}
use Rattle.semantics.specs.Runs.{Declared}

-- the fourth transition is not inner
fourth_outside : (i : InnerData) → Declared sample_witness 4 i → ⊥
fourth_outside i (inl e, n) = let k : 1 ≡ 4 = ap (λ x. x.number) e ∙ n in absurd (omega (arith, k))
fourth_outside i (inr (inl e), n) = let k : 2 ≡ 4 = ap (λ x. x.number) e ∙ n in absurd (omega (arith, k))
fourth_outside i (inr (inr (inl e)), n) = let k : 3 ≡ 4 = ap (λ x. x.number) e ∙ n in absurd (omega (arith, k))
fourth_outside i (inr (inr (inr m)), n) = absurd m

pub steps_worked_lem : WorkedSteps
unfolding dot question_of
steps_worked_lem =
    record {
      exchanged = refl;
      first_met = refl;
      second_met = refl;
      none_met = refl;
      first_asked = refl;
      second_asked = refl;
      last_asked = refl;
      exit = (_, _, record { taken = exchanging 4; from = sample_place; known = (inr (inr (inr (inl refl))), refl); not_inner = fourth_outside; from_listed = (inl refl, refl); facts_are = refl; goal_is = refl });
      no_exit = λ x. x.2.not_inner (sample_inner 1) (inl refl, refl);
    }
