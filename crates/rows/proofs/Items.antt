-- The items of a row: its columns, then its bound.
use Rattle.std.proofs.Common.{◌≡◌, ℕ, ◌<◌, ◌≤◌, ltb, List, get_or, ℤ, pos, sym, ap, ◌∙◌, arith}
use Rattle.std.proofs.lemmas.Bool.{lt-ltb, le-ltb, cond-true, cond-false}
use Rattle.rows.specs.declared.numbers.Numbers.{Numbers}
use Rattle.rows.specs.Limits.{columns, within}
use Rattle.rows.specs.Points.{ValuesWithin}
use Rattle.rows.specs.Shapes.{item_of, Within}

pub item_column : (row : Numbers) (k : ℕ) → k < columns → item_of row k ≡ get_or row.coefficients k (pos 0)
item_column row k l = cond-true (ltb k columns) (get_or row.coefficients k (pos 0)) row.bound (lt-ltb k columns l)

pub item_bound : (row : Numbers) (k : ℕ) → columns ≤ k → item_of row k ≡ row.bound
item_bound row k l = cond-false (ltb k columns) (get_or row.coefficients k (pos 0)) row.bound (le-ltb k columns l)

-- where all numbers of a row lie within a limit, its coefficients do
pub column_within : (most : ℕ) (row : Numbers) → Within most row → ValuesWithin most row.coefficients
column_within most row w k l = sym (ap (within most) (item_column row k l)) ∙ w k (omega arith)

-- numbers with equal parts are equal
pub same_numbers : (cs ds : List ℤ) (b d : ℤ) → cs ≡ ds → b ≡ d → ◌≡◌ {A = Numbers} (record { coefficients = cs; bound = b }) (record { coefficients = ds; bound = d })
same_numbers cs ds b d e f = rw (e, f)
