use Rattle.std.proofs.Common.{take}
use Rattle.formats.specs.Writing.{AreBytes}
use Rattle.formats.proofs.bytes_fit.Given as goal

abbrev pub invariant-loop-byte : goal.invariant-loop-byte
invariant-loop-byte l = AreBytes (take l.byte-index l.bytes)
