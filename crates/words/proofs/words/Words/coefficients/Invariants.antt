-- The loop over the eight coefficients.
use Rattle.words.specs.Read.{left}
use Rattle.words.proofs.Reading.{Reading}
use Rattle.words.proofs.words.Words.coefficients.Given as goal

-- the numbers so far and the words that are left give what the words gave
abbrev pub invariant-loop-coefficient : goal.invariant-loop-coefficient
invariant-loop-coefficient l = Reading (left l.initial.self) l.coefficient-items l.coefficient-index (left l.self)
