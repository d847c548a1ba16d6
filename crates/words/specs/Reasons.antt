-- The text of every reason for which a line is no command.
use Rattle.std.specs.Prelude.{ℕ, List, codes}
use Rattle.words.specs.declared.errors.LineError.{LineError}
use Rattle.words.specs.declared.errors.LineError.TheVariants.{NotText, UnknownCommand, NotANumber, NumberTooLarge, TooFewWords, TooManyWords, SheetRows, MissingMethod, UnknownMethod, MissingHex, NoHexDigit, OddHexDigits, FactsFull, OutOfMemory}

-- why a line is no command
abbrev pub reason_text : LineError → List ℕ
reason_text NotText = codes "not text in UTF-8"
reason_text UnknownCommand = codes "unknown command"
reason_text NotANumber = codes "not a number"
reason_text NumberTooLarge = codes "number too large for 64 bits"
reason_text TooFewWords = codes "too few words"
reason_text TooManyWords = codes "too many words"
reason_text SheetRows = codes "a sheet has 0 to 64 rows"
reason_text MissingMethod = codes "method missing"
reason_text UnknownMethod = codes "unknown method"
reason_text MissingHex = codes "hexadecimal digits missing"
reason_text NoHexDigit = codes "not a hexadecimal digit"
reason_text OddHexDigits = codes "odd number of hexadecimal digits"
reason_text FactsFull = codes "1000 facts are held already"
reason_text OutOfMemory = codes "out of memory"
