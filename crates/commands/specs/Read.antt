-- What a command says, with the text in the place of the reference to it.
use Rattle.std.specs.Prelude.{Ok, Err, Result}
use Rattle.words.specs.declared.errors.LineError.{LineError}
pub use Rattle.words.specs.Read.{left, word_in}
use Rattle.commands.specs.declared.parser.Command.{Command}
use Rattle.commands.specs.declared.parser.Command.TheVariants.{Nothing, Sheet, Fact, Goal, Forget, Row, Ask}
use Rattle.commands.specs.Lines.{Line, nothing, set_sheet, add_fact, set_goal, forget_all, make_row, ask_method}

abbrev pub says : Command → Line
says Nothing = nothing
says (Sheet n) = set_sheet n
says (Fact n) = add_fact n
says (Goal n) = set_goal n
says Forget = forget_all
says (Row n) = make_row n
says (Ask s h) = ask_method s h.word.now

abbrev pub says_in : Result Command LineError → Result Line LineError
says_in (Ok c) = Ok (says c)
says_in (Err e) = Err e
