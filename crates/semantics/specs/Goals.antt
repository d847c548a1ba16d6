-- The goals of obligations: a row after an update, and a row with the choice expressions put in.
use Rattle.std.specs.Prelude.{ℕ, zero, suc, ◌+◌, cond, List, replicate, ℤ, pos, negsuc, ◌+ℤ◌, ◌-ℤ◌, ◌*ℤ◌, nat_lt, slice_index_or}
use Rattle.rows.specs.declared.numbers.Numbers.{Numbers}
use Rattle.rows.specs.Limits.{columns}
use Rattle.rows.specs.Shapes.{item_of}
use Rattle.rows.specs.Zeros.{zero_numbers}
use Rattle.records.specs.Limits.{most_values, most_choices}
use Rattle.records.specs.Records.{TransitionData, InnerData}
use Rattle.formats.specs.Pieces.{each}

-- a row's coefficient of a column
abbrev pub coefficient : Numbers → ℕ → ℤ
coefficient row k = slice_index_or row.coefficients k (pos 0)

-- the sum of f 0, f 1 and so on, n of them
abbrev pub sum_to : ℕ → (ℕ → ℤ) → ℤ
sum_to zero f = pos 0
sum_to (suc n) f = sum_to n f +ℤ f n

-- a number of a sum of expressions: the first n expressions, each times the row's coefficient of its column, the first
-- column being `from`
unfoldable pub combined : Numbers → ℕ → ℕ → List Numbers → ℕ → ℤ
combined row from n expressions item = sum_to n (λ i. coefficient row (from + i) *ℤ item_of (slice_index_or expressions i zero_numbers) item)

-- the row that holds before a transition exactly where the row holds after it: each value stands for its update
abbrev pub after_update : TransitionData → Numbers → Numbers
after_update t row = record {
  coefficients = each (combined row 0 most_values t.updates) columns;
  bound = row.bound -ℤ combined row 0 most_values t.updates columns;
}

-- the row over the values with each choice replaced by its expression
abbrev pub kept_or_zero : Numbers → List Numbers → ℕ → ℤ
kept_or_zero row expressions k =
    cond (nat_lt k most_values) (coefficient row k +ℤ combined row most_values most_choices expressions k) (pos 0)

abbrev pub with_choices : InnerData → Numbers → Numbers
with_choices i row = record {
  coefficients = each (kept_or_zero row i.choices) columns;
  bound = row.bound -ℤ combined row most_values most_choices i.choices columns;
}

-- the goal that no point meets: zeros with bound −1
abbrev pub impossible : Numbers
impossible = record { coefficients = replicate columns (pos 0); bound = negsuc 0 }
