-- Tests one after another over a range, what is given after them, and the pieces of a table or a witness.
use Rattle.std.specs.Prelude.{ℕ, zero, suc, ◌+◌, ◌&&◌, List, map, length, take, drop, Ok, Err, Result, ◌==◌, nat_le, nat_lt, slice_index}
use Rattle.std.specs.List.{range_with_len}
use Rattle.rows.specs.declared.fault.Fault.{Fault}
use Rattle.rows.specs.declared.fault.FaultKind.{FaultKind}
use Rattle.rows.specs.Bytes.{word_at}
use Rattle.rows.specs.Faults.{Said, fault_of, ◌and_then◌, check}

-- a function's values at 0, 1 and so on
abbrev pub each : {X : Type 0} → (ℕ → X) → ℕ → List X
each f n = map f (range_with_len 0 n)

-- the tests for 0, 1 and so on, one after another
abbrev pub each_says : (ℕ → Said) → ℕ → Said
each_says test zero = Ok tt
each_says test (suc n) = each_says test n and_then test n

-- what is given once the tests are passed
abbrev pub giving : {X : Type 0} → Said → X → Result X Fault
giving (Ok u) x = Ok x
giving (Err f) x = Err f

-- the number in a byte
abbrev pub byte_at : List ℕ → ℕ → ℕ
byte_at bytes at = slice_index bytes at

-- a fault at a byte
abbrev pub fault_at : FaultKind → ℕ → Fault
fault_at kind place = fault_of kind place 0 0

-- the version that the first byte names
abbrev pub version : ℕ
version = 1

-- where the first piece begins
abbrev pub pieces_from : ℕ
pieces_from = 1

abbrev pub version_says : FaultKind → List ℕ → Said
version_says kind bytes = check (nat_le 1 (length bytes) && byte_at bytes 0 == version) (fault_at kind 0)

-- the bytes of a length field
abbrev pub length_bytes : ℕ
length_bytes = 2

-- where a piece's rest begins, and where the next piece does
abbrev pub rest_from : ℕ → ℕ
rest_from at = at + length_bytes

abbrev pub piece_end : List ℕ → ℕ → ℕ
piece_end bytes at = rest_from at + word_at bytes at

-- the rest of the piece at an offset
abbrev pub piece_at : List ℕ → ℕ → List ℕ
piece_at bytes at = take (word_at bytes at) (drop (rest_from at) bytes)

-- the piece is found: its length field and its rest lie within the bytes
unfoldable pub piece_says : FaultKind → List ℕ → ℕ → Said
piece_says kind bytes at =
    check (nat_le (rest_from at) (length bytes)) (fault_at kind at)
    and_then check (nat_le (piece_end bytes at) (length bytes)) (fault_at kind at)

-- the tests on the fields of a piece that begins at `offset` and has this rest: it reaches so far, it is as long as its
-- counts call for, a count lies within its limits, a number is greater than another
abbrev pub reach_says : FaultKind → ℕ → List ℕ → ℕ → Said
reach_says kind offset rest n = check (nat_le n (length rest)) (fault_at kind offset)

abbrev pub long_says : FaultKind → ℕ → List ℕ → ℕ → Said
long_says kind offset rest n = check (length rest == n) (fault_at kind offset)

abbrev pub count_says : FaultKind → ℕ → List ℕ → ℕ → ℕ → ℕ → Said
count_says kind offset rest at least most = check (nat_le least (byte_at rest at) && nat_le (byte_at rest at) most) (fault_at kind (rest_from offset + at))

abbrev pub above_says : FaultKind → ℕ → List ℕ → ℕ → ℕ → Said
above_says kind offset rest at least = check (nat_lt least (word_at rest at)) (fault_at kind (rest_from offset + at))
