-- What is made of a caller's numbers: the value with exactly these numbers where all lie within the limit, else the
-- first number that does not, and nothing else.
use Rattle.std.specs.Prelude.{◌≡◌, ℕ, ◌<◌, true, Some, None, Ok, Err, Option, Result}
use Rattle.rows.specs.declared.fault.Fault.{Fault}
use Rattle.rows.specs.declared.fault.FaultKind.TheVariants.{RowNumberTooLarge}
use Rattle.rows.specs.declared.limits.Limit.TheVariants.{RowNumber}
use Rattle.rows.specs.declared.numbers.Numbers.{Numbers}
use Rattle.rows.specs.declared.numbers.TooLarge.{TooLarge}
use Rattle.rows.specs.declared.row.Row.{Row}
use Rattle.rows.specs.Faults.{fault_of}
use Rattle.rows.specs.Firsts.{NoneBelow}
use Rattle.rows.specs.Limits.{items, magnitude_of}
use Rattle.rows.specs.Shapes.{Within, beyond}

-- item i is the first whose number passes the limit
abbrev pub FirstOver : ℕ → Numbers → ℕ → Type 0
FirstOver most numbers i = (i < items) × (beyond most numbers i ≡ true) × NoneBelow (beyond most numbers) i

-- what is said of numbers that are held to a limit
abbrev pub HeldTo : ℕ → Numbers → Result (Unit {0}) TooLarge → Type 0
HeldTo most numbers (Ok u) = Within most numbers
HeldTo most numbers (Err e) = FirstOver most numbers e.item

-- the same as a value: the refusal of the first item found, if one is
abbrev pub unless_beyond : Option ℕ → Result (Unit {0}) TooLarge
unless_beyond None = Ok tt
unless_beyond (Some i) = Err (record { item = i })

abbrev pub RowFrom : Numbers → Result Row Fault → Type 0
RowFrom numbers (Ok row) = (row.numbers ≡ numbers) × Within (magnitude_of RowNumber) numbers
RowFrom numbers (Err f) = (f ≡ fault_of RowNumberTooLarge 0 0 f.item) × FirstOver (magnitude_of RowNumber) numbers f.item
