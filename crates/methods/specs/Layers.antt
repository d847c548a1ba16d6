-- What layers over a method share: the first byte, the question to the method below, room for one more fact.
use Rattle.std.specs.Prelude.{ℕ, cond, ◌&&◌, List, [], ◌∷◌, ◌++◌, length, drop, Ok, Err, Result, ◌==◌, nat_lt, slice_index}
use Rattle.rows.specs.declared.fault.Fault.{Fault}
use Rattle.rows.specs.declared.fault.FaultKind.TheVariants.{CertificateLength, LayerByte, NoRoomForFact}
use Rattle.rows.specs.declared.numbers.Numbers.{Numbers}
use Rattle.rows.specs.Faults.{Said, fault_of, check, moved}
use Rattle.methods.specs.declared.layer.FirstByte.{FirstByte}
use Rattle.methods.specs.declared.layer.FirstByte.TheVariants.{HandDown, Own}
use Rattle.methods.specs.Openings.{most_facts, opened}
use Rattle.methods.specs.Questions.{Question, question, Meaning}

-- what the first byte of a layer's certificate says: 0 hands the rest to the method below, 1 begins the layer's own part
abbrev pub first_byte_of : List ℕ → Result FirstByte Fault
first_byte_of certificate =
    cond (nat_lt 0 (length certificate))
    (cond (slice_index certificate 0 == 0) (Ok HandDown)
    (cond (slice_index certificate 0 == 1) (Ok Own) (Err (fault_of LayerByte 0 0 0))))
    (Err (fault_of CertificateLength 0 0 0))

-- one of two answers by the first byte, or its fault
abbrev pub by_first : Result FirstByte Fault → Said → Said → Said
by_first (Ok HandDown) below own = below
by_first (Ok Own) below own = own
by_first (Err f) below own = Err f

-- the question with the certificate from an offset on
abbrev pub from : ℕ → Question → Question
from offset q = question q.facts q.goal (drop offset q.certificate) q.rows

-- the question with one more fact, the last, and another certificate
abbrev pub adding : Numbers → List ℕ → Question → Question
adding fact certificate q = question (q.facts ++ fact ∷ []) q.goal certificate q.rows

-- there is room for one more fact
abbrev pub room_says : Question → Said
room_says q = check (nat_lt (length q.facts) most_facts && nat_lt (length q.facts) q.rows) (fault_of NoRoomForFact 0 0 0)

-- a layer over a method: the opening tests, then by the first byte the method below or the layer's own part
unfoldable pub layered : (Meaning → Meaning) → Meaning → Meaning
layered own below = opened (λ q. by_first (first_byte_of q.certificate) (moved 1 (below (from 1 q))) (own below q))
