-- What every answer to a question promises, whichever method gave it.
use Rattle.std.specs.Prelude.{◌≡◌, ℕ, ◌≤◌, List, length, ℤ, Ok, Err}
use Rattle.rows.specs.declared.fault.Fault.{Fault}
use Rattle.rows.specs.declared.numbers.Numbers.{Numbers}
use Rattle.rows.specs.Faults.{Said}
use Rattle.rows.specs.Shapes.{Meets, MeetsAll}

-- after a yes, every point of whole numbers that meets all facts meets the goal
abbrev pub SoundAnswer : Said → List Numbers → Numbers → Type 0
SoundAnswer said facts goal = said ≡ Ok tt → (point : List ℤ) → MeetsAll point facts → Meets point goal

-- a fault's place lies within the certificate or at its end
abbrev pub PlacedAnswer : Said → List ℕ → Type 0
PlacedAnswer said certificate = (f : Fault) → said ≡ Err f → f.place ≤ length certificate
