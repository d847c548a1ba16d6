-- The split: the goal is shown below once with a row as one more fact, and once with the row's opposite.
use Rattle.std.specs.Prelude.{◌≡◌, ℕ, ◌+◌, ◌*◌, ◌<◌, ◌≤◌, ◌⊎◌, List, length, take, drop, ℤ, Some, None, Ok, Err, Option, nat_le, slice_index}
use Rattle.rows.specs.declared.fault.FaultKind.TheVariants.{CertificateLength, LayerRowTooLarge}
use Rattle.rows.specs.declared.limits.Limit.TheVariants.{WrittenNumber}
use Rattle.rows.specs.declared.numbers.Numbers.{Numbers}
use Rattle.rows.specs.Bytes.{word_at, number_at}
use Rattle.rows.specs.Faults.{Said, fault_of, ◌and_then◌, check, moved}
use Rattle.rows.specs.Limits.{columns, items, magnitude_of}
use Rattle.rows.specs.Shapes.{Within, first_beyond, opposite_of}
use Rattle.methods.specs.Cuts.{tabulate, HandedYes}
use Rattle.methods.specs.Layers.{adding, room_says, layered}
use Rattle.methods.specs.Openings.{most_facts, Begun}
use Rattle.methods.specs.Questions.{Question, Meaning}

-- where the number of an item stands: behind the first byte, four bytes each
abbrev pub number_from : ℕ → ℕ
number_from item = 1 + 4 * item

-- where the length of the first certificate stands, and where that certificate begins
abbrev pub length_from : ℕ
length_from = number_from items

abbrev pub first_from : ℕ
first_from = length_from + 2

abbrev pub first_length : List ℕ → ℕ
first_length certificate = word_at certificate length_from

-- where the second certificate begins
abbrev pub second_from : List ℕ → ℕ
second_from certificate = first_from + first_length certificate

abbrev pub first_part : List ℕ → List ℕ
first_part certificate = take (first_length certificate) (drop first_from certificate)

abbrev pub second_part : List ℕ → List ℕ
second_part certificate = drop (second_from certificate) certificate

-- the number of an item
abbrev pub split_item : List ℕ → ℕ → ℤ
split_item certificate item = number_at certificate (number_from item)

-- the row that the certificate writes
abbrev pub split_row : List ℕ → Numbers
split_row certificate = record { coefficients = tabulate (split_item certificate) columns; bound = split_item certificate columns }

-- the fault at the first number that is too large to be written
abbrev pub unless_written : Option ℕ → Said
unless_written None = Ok tt
unless_written (Some item) = Err (fault_of LayerRowTooLarge (number_from item) 0 item)

-- the tests on the way to the row, in their order
unfoldable pub split_tests : List ℕ → Said
split_tests certificate =
    check (nat_le (second_from certificate) (length certificate)) (fault_of CertificateLength 0 0 0)
    and_then unless_written (first_beyond (magnitude_of WrittenNumber) (split_row certificate))

-- the layer's own part
unfoldable pub split_own : Meaning → Meaning
split_own below q =
    room_says q
    and_then split_tests q.certificate
    and_then moved first_from (below (adding (split_row q.certificate) (first_part q.certificate) q))
    and_then moved (second_from q.certificate) (below (adding (opposite_of (split_row q.certificate)) (second_part q.certificate) q))

-- what the split over a method means
abbrev pub split_says : Meaning → Meaning
split_says = layered split_own

-- when its own part says yes: every condition
pub record SplitOwnYes (below : Meaning) (q : Question) : Type 0 where
  pub first_byte : (0 < length q.certificate) × (slice_index q.certificate 0 ≡ 1)
  pub room : (length q.facts < most_facts) × (length q.facts < q.rows)
  pub long : second_from q.certificate ≤ length q.certificate
  pub written : Within (magnitude_of WrittenNumber) (split_row q.certificate)
  pub first_yes : below (adding (split_row q.certificate) (first_part q.certificate) q) ≡ Ok tt
  pub second_yes : below (adding (opposite_of (split_row q.certificate)) (second_part q.certificate) q) ≡ Ok tt

-- when the split says yes
pub record SplitYes (below : Meaning) (q : Question) : Type 0 where
  pub begun : Begun q
  pub by : HandedYes below q ⊎ SplitOwnYes below q
