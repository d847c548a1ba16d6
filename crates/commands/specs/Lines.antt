-- What a line says: which command with which arguments, or the first thing that is wrong with it.
use Rattle.std.specs.Prelude.{ℕ, cond, List, [], ◌∷◌, ℤ, pos, negsuc, Some, None, Ok, Err, codes, Option, Result, ◌==◌, nat_le, slice_index}
use Rattle.rows.specs.declared.numbers.Numbers.{Numbers}
use Rattle.words.specs.declared.errors.LineError.{LineError}
use Rattle.words.specs.declared.errors.LineError.TheVariants.{UnknownCommand, SheetRows, MissingMethod, UnknownMethod}
use Rattle.words.specs.Arguments.{and_then, rest_of, ended, first_number, first_hex, nine_numbers}
use Rattle.words.specs.Words.{words_of}
use Rattle.commands.specs.declared.parser.Keyword.{Keyword}
use Rattle.commands.specs.declared.parser.Keyword.TheVariants.{Sheet, Fact, Goal, Forget, Row, Ask}
use Rattle.commands.specs.declared.stacks.Stack.{Stack}
use Rattle.commands.specs.Names.{named}
use Rattle.commands.specs.Stacks.{stack_of}

-- a command with its arguments; bytes stand as the word that writes them
pub data Line : Type 0 where
  nothing : Line
  set_sheet : ℕ → Line
  add_fact : Numbers → Line
  set_goal : Numbers → Line
  forget_all : Line
  make_row : Numbers → Line
  ask_method : Stack → List ℕ → Line

-- the first word as a stack of methods
abbrev pub method_of : Option Stack → Result Stack LineError
method_of None = Err UnknownMethod
method_of (Some s) = Ok s

abbrev pub first_method : List (List ℕ) → Result Stack LineError
first_method [] = Err MissingMethod
first_method (w ∷ ws) = method_of (stack_of w)

-- the most rows of a sheet
abbrev pub most_rows : ℕ
most_rows = 64

abbrev pub sheet_rows : ℤ → Result ℕ LineError
sheet_rows (pos n) = cond (nat_le n most_rows) (Ok n) (Err SheetRows)
sheet_rows (negsuc n) = Err SheetRows

unfoldable pub sheet_line : List (List ℕ) → Result Line LineError
sheet_line ws = and_then (first_number ws) (λ z. and_then (ended z (rest_of ws)) (λ y. and_then (sheet_rows y) (λ n. Ok (set_sheet n))))

unfoldable pub ask_line : List (List ℕ) → Result Line LineError
ask_line ws = and_then (first_method ws) (λ s. and_then (first_hex (rest_of ws)) (λ h. ended (ask_method s h) (rest_of (rest_of ws))))

-- the command of a keyword, with the words behind it
abbrev pub line_by : Keyword → List (List ℕ) → Result Line LineError
line_by Sheet ws = sheet_line ws
line_by Fact ws = and_then (nine_numbers ws) (λ n. Ok (add_fact n))
line_by Goal ws = and_then (nine_numbers ws) (λ n. Ok (set_goal n))
line_by Forget ws = ended forget_all ws
line_by Row ws = and_then (nine_numbers ws) (λ n. Ok (make_row n))
line_by Ask ws = ask_line ws

abbrev pub keywords : List (List ℕ × Keyword)
keywords = (codes "sheet", Sheet) ∷ (codes "fact", Fact) ∷ (codes "goal", Goal) ∷ (codes "forget", Forget) ∷ (codes "row", Row) ∷ (codes "ask", Ask) ∷ []

abbrev pub keyword_of : List ℕ → Option Keyword
keyword_of = named keywords

abbrev pub keyed : Option Keyword → List (List ℕ) → Result Line LineError
keyed None ws = Err UnknownCommand
keyed (Some k) ws = line_by k ws

-- no word, or a first word that begins with a number sign, says nothing
abbrev pub line_from : List (List ℕ) → Result Line LineError
line_from [] = Ok nothing
line_from (w ∷ ws) = cond (slice_index w 0 == 35) (Ok nothing) (keyed (keyword_of w) ws)

-- what a line says
unfoldable pub line_of : List ℕ → Result Line LineError
line_of bytes = line_from (words_of bytes)
