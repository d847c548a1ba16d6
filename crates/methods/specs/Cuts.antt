-- The cut: a weighted sum of the facts, divided by a common divisor of its coefficients, its bound rounded down, becomes
-- one more fact for the method below.
use Rattle.std.specs.Prelude.{◌≡◌, ℕ, zero, suc, ◌+◌, ◌*◌, ◌/◌, ◌<◌, ◌≤◌, Bool, not, ◌⊎◌, List, [], ◌∷◌, ◌++◌, length, drop, ℤ, pos, negsuc, ◌+ℤ◌, ◌*ℤ◌, ◌≤ℤ◌, ◌<ℤ◌, Ok, nat_le, slice_index, slice_index_or}
use Rattle.rows.specs.declared.fault.FaultKind.TheVariants.{CertificateLength, ColumnDiffers, LayerRowTooLarge}
use Rattle.rows.specs.declared.limits.Limit.TheVariants.{RowNumber}
use Rattle.rows.specs.declared.numbers.Numbers.{Numbers}
use Rattle.rows.specs.Bytes.{word_at}
use Rattle.rows.specs.Faults.{Said, fault_of, ◌and_then◌, check, unless_found, moved}
use Rattle.rows.specs.Firsts.{first_below}
use Rattle.rows.specs.Limits.{columns, magnitude_of}
use Rattle.rows.specs.Shapes.{Within, first_beyond}
use Rattle.rows.specs.Wholes.{int_eq_test}
use Rattle.methods.specs.Layers.{from, adding, room_says, layered}
use Rattle.methods.specs.Openings.{most_facts, Begun}
use Rattle.methods.specs.Questions.{Question, Meaning}
use Rattle.methods.specs.Weights.{most_weight, range_says, weights_say, weighted}

-- the quotient rounded down
abbrev pub floor_div : ℤ → ℕ → ℤ
floor_div (pos n) d = pos (n / d)
floor_div (negsuc n) d = negsuc (n / d)

-- the values of a function at the numbers below n
abbrev pub tabulate : {X : Type 0} → (ℕ → X) → ℕ → List X
tabulate f zero = []
tabulate f (suc n) = tabulate f n ++ f n ∷ []

-- behind the first byte stand the divisor and one multiplier for each fact
abbrev pub divisor_from : ℕ
divisor_from = 1

abbrev pub cut_weights_from : ℕ
cut_weights_from = 3

-- where the lower certificate begins
abbrev pub cut_end : List Numbers → ℕ
cut_end facts = cut_weights_from + 2 * length facts

abbrev pub divisor : List ℕ → ℕ
divisor certificate = word_at certificate divisor_from

-- the facts' sum of an item, divided and rounded down
abbrev pub divided : List Numbers → List ℕ → ℕ → ℤ
divided facts certificate item = floor_div (weighted item certificate cut_weights_from facts) (divisor certificate)

-- a column whose sum is no multiple of the divisor
abbrev pub indivisible : List Numbers → List ℕ → ℕ → Bool
indivisible facts certificate column =
    not (int_eq_test (pos (divisor certificate) *ℤ divided facts certificate column) (weighted column certificate cut_weights_from facts))

abbrev pub divides_say : List Numbers → List ℕ → Said
divides_say facts certificate = unless_found ColumnDiffers (first_below (indivisible facts certificate) columns)

-- the row that the cut adds
abbrev pub cut_row : List Numbers → List ℕ → Numbers
cut_row facts certificate = record { coefficients = tabulate (divided facts certificate) columns; bound = divided facts certificate columns }

-- the tests on the way to the row, in their order
unfoldable pub cut_tests : List Numbers → List ℕ → Said
cut_tests facts certificate =
    check (nat_le (cut_end facts) (length certificate)) (fault_of CertificateLength 0 0 0)
    and_then range_says 1 certificate divisor_from
    and_then weights_say certificate cut_weights_from facts
    and_then divides_say facts certificate
    and_then unless_found LayerRowTooLarge (first_beyond (magnitude_of RowNumber) (cut_row facts certificate))

-- the layer's own part
unfoldable pub cut_own : Meaning → Meaning
cut_own below q =
    room_says q
    and_then cut_tests q.facts q.certificate
    and_then moved (cut_end q.facts) (below (adding (cut_row q.facts q.certificate) (drop (cut_end q.facts) q.certificate) q))

-- what the cut over a method means
abbrev pub cut_says : Meaning → Meaning
cut_says = layered cut_own

-- a row that is the facts' weighted sum divided: each column's sum is the divisor times the coefficient, and the bound
-- is the whole number with divisor × bound ≤ sum < divisor × (bound + 1)
pub record IsCut (facts : List Numbers) (certificate : List ℕ) (row : Numbers) : Type 0 where
  pub as_long : length row.coefficients ≡ columns
  pub columns_divided : (k : ℕ) → k < columns → weighted k certificate cut_weights_from facts ≡ pos (divisor certificate) *ℤ slice_index_or row.coefficients k (pos 0)
  pub bound_below : (pos (divisor certificate) *ℤ row.bound) ≤ℤ weighted columns certificate cut_weights_from facts
  pub bound_above : weighted columns certificate cut_weights_from facts <ℤ (pos (divisor certificate) *ℤ (row.bound +ℤ pos 1))

-- when its own part says yes: every condition
pub record CutOwnYes (below : Meaning) (q : Question) (row : Numbers) : Type 0 where
  pub first_byte : (0 < length q.certificate) × (slice_index q.certificate 0 ≡ 1)
  pub room : (length q.facts < most_facts) × (length q.facts < q.rows)
  pub long : cut_end q.facts ≤ length q.certificate
  pub divisor_least : 1 ≤ divisor q.certificate
  pub divisor_most : divisor q.certificate ≤ most_weight
  pub weights : (i : ℕ) → i < length q.facts → word_at q.certificate (cut_weights_from + 2 * i) ≤ most_weight
  pub is_cut : IsCut q.facts q.certificate row
  pub is_row : Within (magnitude_of RowNumber) row
  pub below_yes : below (adding row (drop (cut_end q.facts) q.certificate) q) ≡ Ok tt

-- when a layer hands the rest down and the method below says yes
pub record HandedYes (below : Meaning) (q : Question) : Type 0 where
  pub first_byte : (0 < length q.certificate) × (slice_index q.certificate 0 ≡ 0)
  pub below_yes : below (from 1 q) ≡ Ok tt

-- when the cut says yes
pub record CutYes (below : Meaning) (q : Question) : Type 0 where
  pub begun : Begun q
  pub by : HandedYes below q ⊎ ((row : Numbers) × CutOwnYes below q row)
