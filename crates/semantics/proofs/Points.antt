-- Points: padded lists, the numbers of a point of a state and of choices, and the sum of a row at such a point.
use Rattle.std.proofs.Common.{◌≡◌, ℕ, zero, suc, ◌+◌, ◌<◌, ◌≤◌, List, [], ◌∷◌, ◌++◌, length, get_or, replicate, ℤ, pos, ◌+ℤ◌, ◌*ℤ◌, sym, refl, ap, ◌∙◌, inl, inr, arith, length-append, length-take}
use lib.ListN.{length-replicate}
use lib.IntN.{*ℤ-zero, zero-*ℤ, +ℤ_idr}
use Rattle.std.proofs.lemmas.List.{get_or-take, get_or_append_left, get_or-append-add, get_or_past, get_or-replicate}
use Rattle.std.proofs.lemmas.Bool.{cases_lt}
use Rattle.rows.specs.Limits.{columns}
use Rattle.rows.specs.Shapes.{dot}
use Rattle.records.specs.Limits.{most_values, most_choices}
use Rattle.semantics.specs.Goals.{sum_to}
use Rattle.semantics.specs.Vectors.{padded, Filled, point_of, at_rest, no_choices}
use Rattle.semantics.proofs.Sums.{sum_same, sum_zero, sum_parts, dot_sum}

-- a list with zeros behind it
get_or-zeros : (xs : List ℤ) (n i : ℕ) → get_or (xs ++ replicate n (pos 0)) i (pos 0) ≡ get_or xs i (pos 0)
get_or-zeros [] zero i = refl
get_or-zeros [] (suc n) zero = refl
get_or-zeros [] (suc n) (suc i) = get_or-zeros [] n i
get_or-zeros (x ∷ xs) n zero = refl
get_or-zeros (x ∷ xs) n (suc i) = get_or-zeros xs n i

pub length_padded : (n : ℕ) (xs : List ℤ) → length (padded n xs) ≡ n
length_padded n xs =
    let a = length-take n (xs ++ replicate n (pos 0)) in
    let b = length-append xs (replicate n (pos 0)) in
    let c = length-replicate {A = ℤ} n (pos 0) in
    omega (arith, a, b, c)

pub get_or-padded : (n : ℕ) (xs : List ℤ) (i : ℕ) → i < n → get_or (padded n xs) i (pos 0) ≡ get_or xs i (pos 0)
get_or-padded n xs i l = get_or-take n (xs ++ replicate n (pos 0)) i (pos 0) l ∙ get_or-zeros xs n i

-- the values of a point, and its choices
pub point_value : (state choices : List ℤ) (k : ℕ) → length state ≡ most_values → k < most_values → get_or (point_of state choices) k (pos 0) ≡ get_or state k (pos 0)
point_value state choices k e l = get_or_append_left state choices (pos 0) k (omega arith)

pub point_choice : (state choices : List ℤ) (l : ℕ) → length state ≡ most_values → get_or (point_of state choices) (most_values + l) (pos 0) ≡ get_or choices l (pos 0)
point_choice state choices l e = ap (λ (n : ℕ). get_or (state ++ choices) (n + l) (pos 0)) (sym e) ∙ get_or-append-add state choices l (pos 0)

pub no_choice : (l : ℕ) → get_or no_choices l (pos 0) ≡ pos 0
no_choice l = get_or-zeros [] most_choices l

-- a row of zeros
pub dot_zeros : (point : List ℤ) → dot (replicate columns (pos 0)) point ≡ pos 0
unfolding dot
dot_zeros point =
    dot_sum columns (replicate columns (pos 0)) point
    ∙ sum_same columns _ (λ k. pos 0) (λ k l. ap (λ (z : ℤ). z *ℤ get_or point k (pos 0)) (get_or-replicate columns k (pos 0) (pos 0) l) ∙ zero-*ℤ (get_or point k (pos 0)))
    ∙ sum_zero columns

-- what the values add to a row's sum, and what the choices do
abbrev pub values_part : List ℤ → List ℤ → ℤ
values_part cs state = sum_to most_values (λ k. get_or cs k (pos 0) *ℤ get_or state k (pos 0))

abbrev pub choices_part : List ℤ → List ℤ → ℤ
choices_part cs choices = sum_to most_choices (λ l. get_or cs (most_values + l) (pos 0) *ℤ get_or choices l (pos 0))

pub dot_point : (cs state choices : List ℤ) → length state ≡ most_values → dot cs (point_of state choices) ≡ values_part cs state +ℤ choices_part cs choices
unfolding dot
dot_point cs state choices e =
    dot_sum columns cs (point_of state choices)
    ∙ sum_parts most_values most_choices (λ k. get_or cs k (pos 0) *ℤ get_or (point_of state choices) k (pos 0))
    ∙ ap (λ (z : ℤ). z +ℤ sum_to most_choices (λ l. get_or cs (most_values + l) (pos 0) *ℤ get_or (point_of state choices) (most_values + l) (pos 0))) (sum_same most_values _ (λ k. get_or cs k (pos 0) *ℤ get_or state k (pos 0)) (λ k l. ap (λ (z : ℤ). get_or cs k (pos 0) *ℤ z) (point_value state choices k e l)))
    ∙ ap (λ (z : ℤ). values_part cs state +ℤ z) (sum_same most_choices _ (λ l. get_or cs (most_values + l) (pos 0) *ℤ get_or choices l (pos 0)) (λ l h. ap (λ (z : ℤ). get_or cs (most_values + l) (pos 0) *ℤ z) (point_choice state choices l e)))

-- with no choices
pub no_choices_lem : (cs : List ℤ) → choices_part cs no_choices ≡ pos 0
no_choices_lem cs =
    sum_same most_choices _ (λ l. pos 0) (λ l h. ap (λ (z : ℤ). get_or cs (most_values + l) (pos 0) *ℤ z) (no_choice l) ∙ *ℤ-zero (get_or cs (most_values + l) (pos 0)))
    ∙ sum_zero most_choices

pub dot_rest : (cs state : List ℤ) → length state ≡ most_values → dot cs (at_rest state) ≡ values_part cs state
dot_rest cs state e =
    dot_point cs state no_choices e
    ∙ ap (λ (z : ℤ). values_part cs state +ℤ z) (no_choices_lem cs)
    ∙ +ℤ_idr (values_part cs state)

-- numbers that are few enough, with zeros behind them
pub padded_filled : (n used : ℕ) (xs : List ℤ) → length xs ≡ used → Filled n used (padded n xs)
padded_filled n used xs e = record { sized = length_padded n xs; unused = past }
  where
    past : (k : ℕ) → used ≤ k → get_or (padded n xs) k (pos 0) ≡ pos 0
    past k l =
        elim (cases_lt k n) [
          | inl h ↦ get_or-padded n xs k h ∙ get_or_past xs k (pos 0) (omega arith)
          | inr h ↦ let s = length_padded n xs in get_or_past (padded n xs) k (pos 0) (omega arith)
        ]
