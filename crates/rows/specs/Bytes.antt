-- Numbers in bytes: big-endian, signed ones in two's complement. A byte past the end counts as zero.
use Rattle.std.specs.Prelude.{ℕ, ◌+◌, ◌-◌, ◌*◌, cond, List, ℤ, pos, neg_ℤ, nat_lt, slice_index}

-- the number in two bytes
abbrev pub word_at : List ℕ → ℕ → ℕ
word_at bytes at = 256 * slice_index bytes at + slice_index bytes (at + 1)

-- the number in four bytes, without a sign
abbrev pub long_at : List ℕ → ℕ → ℕ
long_at bytes at = 65536 * word_at bytes at + word_at bytes (at + 2)

-- a number of 32 bits read in two's complement
abbrev pub signed : ℕ → ℤ
signed n = cond (nat_lt n 2147483648) (pos n) (neg_ℤ (pos (4294967296 - n)))

-- the signed number in four bytes
abbrev pub number_at : List ℕ → ℕ → ℤ
number_at bytes at = signed (long_at bytes at)
