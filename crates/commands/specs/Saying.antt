-- Commands written as lines, and the law that a command that is written is read again.
use Rattle.std.specs.Prelude.{◌≡◌, ℕ, ◌<◌, ◌≤◌, true, List, [], ◌∷◌, map, length, is_ok, Ok, codes, decimal}
use Rattle.std.specs.Fmt.{signed_decimal}
use Rattle.words.specs.Arguments.{items_of, Nine}
use Rattle.words.specs.Hex.{hex_bytes}
use Rattle.words.specs.Words.{spaced}
use Rattle.commands.specs.Lines.{Line, nothing, set_sheet, add_fact, set_goal, forget_all, make_row, ask_method, most_rows, line_of}
use Rattle.commands.specs.Stacks.{stack_text}

-- the words of a command
abbrev pub line_words : Line → List (List ℕ)
line_words nothing = []
line_words (set_sheet n) = codes "sheet" ∷ decimal n ∷ []
line_words (add_fact r) = codes "fact" ∷ map signed_decimal (items_of r)
line_words (set_goal r) = codes "goal" ∷ map signed_decimal (items_of r)
line_words forget_all = codes "forget" ∷ []
line_words (make_row r) = codes "row" ∷ map signed_decimal (items_of r)
line_words (ask_method s w) = codes "ask" ∷ stack_text s ∷ w ∷ []

-- what the arguments of a command may be
abbrev pub Sayable : Line → Type 0
Sayable nothing = Unit {0}
Sayable (set_sheet n) = n ≤ most_rows
Sayable (add_fact r) = Nine r
Sayable (set_goal r) = Nine r
Sayable forget_all = Unit {0}
Sayable (make_row r) = Nine r
Sayable (ask_method s w) = (0 < length w) × (is_ok (hex_bytes w) ≡ true)

-- a command that is written is read again, and what a line says may be said
pub record LinesRead : Type 0 where
  pub back : (l : Line) → Sayable l → line_of (spaced (line_words l)) ≡ Ok l
  pub only : (bytes : List ℕ) (l : Line) → line_of bytes ≡ Ok l → Sayable l
