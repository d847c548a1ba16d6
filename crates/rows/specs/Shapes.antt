-- Rows over unlimited whole numbers: their items, and what it is to meet one at a point.
use Rattle.std.specs.Prelude.{◌≡◌, ℕ, zero, suc, ◌<◌, Bool, true, cond, not, List, map, ℤ, pos, ◌+ℤ◌, ◌-ℤ◌, ◌*ℤ◌, neg_ℤ, ◌≤ℤ◌, Option, nat_lt, slice_index_or}
use Rattle.std.specs.List.{AllByRecursion}
use Rattle.rows.specs.declared.numbers.Numbers.{Numbers}
use Rattle.rows.specs.Limits.{columns, items, within}
use Rattle.rows.specs.Firsts.{first_below}

-- a row's number by its item: the coefficient of a column, else the bound
abbrev pub item_of : Numbers → ℕ → ℤ
item_of row k = cond (nat_lt k columns) (slice_index_or row.coefficients k (pos 0)) row.bound

-- an item's number passes the limit
abbrev pub beyond : ℕ → Numbers → ℕ → Bool
beyond most row k = not (within most (item_of row k))

-- the lowest item whose number passes the limit
unfoldable pub first_beyond : ℕ → Numbers → Option ℕ
first_beyond most row = first_below (beyond most row) items

-- every number of the row lies within the limit
abbrev pub Within : ℕ → Numbers → Type 0
Within most row = (k : ℕ) → k < items → within most (item_of row k) ≡ true

-- the sum of coefficient × value over the first n columns
abbrev pub dot_to : ℕ → List ℤ → List ℤ → ℤ
dot_to zero cs vs = pos 0
dot_to (suc k) cs vs = dot_to k cs vs +ℤ slice_index_or cs k (pos 0) *ℤ slice_index_or vs k (pos 0)

-- over all columns
unfoldable pub dot : List ℤ → List ℤ → ℤ
dot cs vs = dot_to columns cs vs

-- a point meets a row: the sum of coefficient × value is at most the bound
abbrev pub Meets : List ℤ → Numbers → Type 0
Meets point row = dot row.coefficients point ≤ℤ row.bound

abbrev pub MeetsAll : List ℤ → List Numbers → Type 0
MeetsAll point rows = AllByRecursion (Meets point) rows

-- the opposite of "a at most b": "−a at most −b − 1"
abbrev pub opposite_of : Numbers → Numbers
opposite_of row = record { coefficients = map neg_ℤ row.coefficients; bound = neg_ℤ row.bound -ℤ pos 1 }

-- an expression's value at a point
abbrev pub value_of : List ℤ → ℤ → List ℤ → ℤ
value_of cs constant point = dot cs point +ℤ constant
