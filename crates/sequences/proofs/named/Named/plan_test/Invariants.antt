use Rattle.std.proofs.Common.{◌≡◌, ◌+◌, Ok}
use Rattle.formats.specs.Pieces.{each_says}
use Rattle.formats.specs.Witnesses.{entry_test}
use Rattle.sequences.specs.TableGiven.{named_of}
use Rattle.sequences.proofs.named.Named.plan_test.Given as goal

abbrev pub invariant-loop-e : goal.invariant-loop-e
invariant-loop-e l = Ok tt ≡ each_says (entry_test (named_of l.self) l.place l.piece.offset l.piece.rest.now (l.plan_count_from + 1) (2 + l.stride)) l.e
