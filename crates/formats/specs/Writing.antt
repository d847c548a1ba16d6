-- Writing: the bytes of numbers, rows, tables and witnesses. Nothing in the product writes them; they say which bytes the
-- readers take.
use Rattle.std.specs.Prelude.{ℕ, ◌+◌, ◌-◌, ◌/◌, ◌%◌, ◌<◌, List, [], ◌∷◌, ◌++◌, length, ℤ, pos, negsuc}
use Rattle.std.specs.List.{range_with_len, AllByRecursion}
use Rattle.rows.specs.declared.numbers.Numbers.{Numbers}
use Rattle.rows.specs.Limits.{columns}
use Rattle.rows.specs.Shapes.{item_of}
use Rattle.records.specs.declared.shape.Shape.{Shape}
use Rattle.records.specs.Limits.{most_values}
use Rattle.records.specs.Records.{HeadingData, TransitionData, TableData, EntryData, PlaceData, InnerData, WitnessData, shape_of}
use Rattle.records.specs.Slots.{over_values}
use Rattle.formats.specs.Pieces.{version}
use Rattle.formats.specs.Witnesses.{place_kind, inner_kind}

-- each number is one that a byte holds
abbrev pub AreBytes : List ℕ → Type 0
AreBytes bytes = AllByRecursion (λ b. b < 256) bytes

-- a number in two bytes, the high one first
abbrev pub word_bytes : ℕ → List ℕ
word_bytes n = n / 256 ∷ n % 256 ∷ []

-- a signed number as one of 32 bits, in two's complement
abbrev pub complement : ℤ → ℕ
complement (pos n) = n
complement (negsuc n) = 4294967295 - n

-- a signed number in four bytes
abbrev pub signed_bytes : ℤ → List ℕ
signed_bytes z = word_bytes (complement z / 65536) ++ word_bytes (complement z % 65536)

-- elements one behind another
abbrev pub joined : {X : Type 0} → (X → List ℕ) → List X → List ℕ
joined write [] = []
joined write (x ∷ xs) = write x ++ joined write xs

-- the numbers of a row that are stored: the columns of the values, those of the choices, the bound or constant
abbrev pub stored_items : Shape → List ℕ
stored_items shape = range_with_len 0 shape.values ++ (range_with_len most_values shape.choices ++ columns ∷ [])

abbrev pub row_bytes : Shape → Numbers → List ℕ
row_bytes shape row = joined (λ item. signed_bytes (item_of row item)) (stored_items shape)

abbrev pub rows_bytes : Shape → List Numbers → List ℕ
rows_bytes shape rows = joined (row_bytes shape) rows

-- a piece: the length of its rest, and the rest
abbrev pub piece_bytes : List ℕ → List ℕ
piece_bytes rest = word_bytes (length rest) ++ rest

-- the rest of a heading
abbrev pub heading_bytes : HeadingData → List ℕ
heading_bytes h = h.values ∷ h.choices ∷ (word_bytes h.start ++ length h.initial ∷ rows_bytes (over_values (shape_of h)) h.initial)

-- the rest of a transition piece
abbrev pub transition_bytes : Shape → TransitionData → List ℕ
transition_bytes shape t =
    word_bytes t.number ++ (word_bytes t.start ++ (word_bytes t.target
    ++ length t.guard ∷ (rows_bytes (over_values shape) t.guard ++ rows_bytes shape t.updates)))

unfoldable pub table_bytes : TableData → List ℕ
table_bytes t = version ∷ (piece_bytes (heading_bytes t.heading) ++ joined (λ x. piece_bytes (transition_bytes (shape_of t.heading) x)) t.transitions)

-- a plan entry that has a test
abbrev pub entry_bytes : Shape → EntryData → List ℕ
entry_bytes shape e = word_bytes e.transition ++ row_bytes (over_values shape) e.test

-- the rest of a place piece
abbrev pub place_bytes : Shape → PlaceData → List ℕ
place_bytes shape p =
    place_kind ∷ (word_bytes p.number ++ length p.condition ∷ (rows_bytes (over_values shape) p.condition
    ++ (length p.tested + 1) ∷ (joined (entry_bytes shape) p.tested ++ word_bytes p.last)))

-- the rest of an inner-transition piece
abbrev pub inner_bytes : Shape → InnerData → List ℕ
inner_bytes shape i =
    inner_kind ∷ (word_bytes i.number ++ length i.restrictions ∷ (rows_bytes shape i.restrictions ++ rows_bytes (over_values shape) i.choices))

unfoldable pub witness_bytes : Shape → WitnessData → List ℕ
witness_bytes shape w =
    version ∷ (joined (λ p. piece_bytes (place_bytes shape p)) w.places ++ joined (λ i. piece_bytes (inner_bytes shape i)) w.inners)
