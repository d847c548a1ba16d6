-- What the types that borrow a part of the line hold, with the text in the place of the reference to it.
use Rattle.std.specs.Prelude.{ℕ, List, Ok, Err, Result}
use Rattle.words.specs.declared.errors.LineError.{LineError}
use Rattle.words.specs.declared.hex.Hex.{Hex}
use Rattle.words.specs.declared.words.Words.{Words}
use Rattle.words.specs.Words.{words_of}

-- the word that was read as bytes
abbrev pub word_in : Result Hex LineError → Result (List ℕ) LineError
word_in (Ok h) = Ok h.word.now
word_in (Err e) = Err e

-- the words that are left
abbrev pub left : Words → List (List ℕ)
left w = words_of w.rest.now
