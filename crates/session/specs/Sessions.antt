-- What the console holds, what it answers to a command, and what it holds afterwards.
use Rattle.std.specs.Prelude.{◌≡◌, ℕ, cond, ◌⊎◌, List, [], ◌∷◌, ◌++◌, length, replicate, pos, Some, None, Ok, Err, vec_items, IsUtf8, Option, Result, nat_lt, slice_index_or}
use Rattle.rows.specs.declared.numbers.Numbers.{Numbers}
use Rattle.rows.specs.Faults.{Said}
use Rattle.rows.specs.Limits.{columns}
use Rattle.methods.specs.Cuts.{tabulate}
use Rattle.methods.specs.Openings.{row_says}
use Rattle.methods.specs.Questions.{asked}
use Rattle.words.specs.declared.errors.LineError.{LineError}
use Rattle.words.specs.declared.errors.LineError.TheVariants.{NotText, FactsFull, OutOfMemory}
use Rattle.words.specs.Hex.{hex_bytes}
use Rattle.replies.specs.declared.reply.Reply.{Reply}
use Rattle.replies.specs.declared.reply.Reply.TheVariants.{Yes, Done}
use Rattle.replies.specs.Texts.{unless_refused}
use Rattle.commands.specs.declared.stacks.Stack.{Stack}
use Rattle.commands.specs.Lines.{Line, nothing, set_sheet, add_fact, set_goal, forget_all, make_row, ask_method, line_of}
use Rattle.session.specs.declared.session.Session.{Session}
use Rattle.session.specs.Chosen.{stack_says}

-- the facts in their order, the goal, and how many rows the fact sheet has
pub record Model : Type 0 where
  pub facts : List Numbers
  pub goal : Numbers
  pub rows : ℕ

abbrev pub model_of : Session → Model
model_of s = record { facts = vec_items s.facts; goal = s.goal; rows = s.rows }

abbrev pub zeros : Numbers
zeros = record { coefficients = replicate columns (pos 0); bound = pos 0 }

-- at the start
abbrev pub fresh : Model
fresh = record { facts = []; goal = zeros; rows = 32 }

-- the most facts that are held
abbrev pub most_held : ℕ
most_held = 1000

-- the fact sheet: the facts, as many as it has rows, and zeros behind them
abbrev pub sheet_of : List Numbers → ℕ → List Numbers
sheet_of facts rows = tabulate (λ i. slice_index_or facts i zeros) rows

-- a reply, or in its place the refusal
abbrev pub reply : Reply → Said → Result (Option Reply) LineError
reply word said = Ok (Some (unless_refused word said))

-- the answer to a question with a certificate that was written as a word
abbrev pub asked_with : Model → Stack → Result (List ℕ) LineError → Result Said LineError
asked_with m stack (Ok bytes) = Ok (asked (stack_says stack) (length m.facts) (sheet_of m.facts m.rows) m.goal bytes)
asked_with m stack (Err e) = Err e

abbrev pub replied : Result Said LineError → Result (Option Reply) LineError
replied (Ok said) = reply Yes said
replied (Err e) = Err e

-- what the console answers to a command
abbrev pub reply_to : Line → Model → Result (Option Reply) LineError
reply_to nothing m = Ok None
reply_to (set_sheet n) m = reply Done (Ok tt)
reply_to (add_fact r) m = cond (nat_lt (length m.facts) most_held) (reply Done (Ok tt)) (Err FactsFull)
reply_to (set_goal r) m = reply Done (Ok tt)
reply_to forget_all m = reply Done (Ok tt)
reply_to (make_row r) m = reply Done (row_says r)
reply_to (ask_method stack word) m = replied (asked_with m stack (hex_bytes word))

-- what it holds afterwards
abbrev pub after : Line → Model → Model
after nothing m = m
after (set_sheet n) m = record { facts = m.facts; goal = m.goal; rows = n }
after (add_fact r) m = cond (nat_lt (length m.facts) most_held) (record { facts = m.facts ++ r ∷ []; goal = m.goal; rows = m.rows }) m
after (set_goal r) m = record { facts = m.facts; goal = r; rows = m.rows }
after forget_all m = record { facts = []; goal = zeros; rows = m.rows }
after (make_row r) m = m
after (ask_method stack word) m = m

-- a question was answered, or there was no memory for it
abbrev pub Answered : Result Said LineError → Result Said LineError → Type 0
Answered r said = (r ≡ Err OutOfMemory) ⊎ (r ≡ said)

-- a command was done, or there was no memory for it and nothing has changed
abbrev pub Ran : Line → Model → Model → Result (Option Reply) LineError → Type 0
Ran line before now r = ((r ≡ Err OutOfMemory) × (now ≡ before)) ⊎ ((r ≡ reply_to line before) × (now ≡ after line before))

-- the command of a line was done, or the line is none and nothing has changed
abbrev pub LineDone : Result Line LineError → Model → Model → Result (Option Reply) LineError → Type 0
LineDone (Ok line) before now r = Ran line before now r
LineDone (Err e) before now r = (r ≡ Err e) × (now ≡ before)

-- the same of bytes, which may be no text
pub record LineRan (bytes : List ℕ) (before now : Model) (r : Result (Option Reply) LineError) : Type 0 where
  pub text : IsUtf8 bytes → LineDone (line_of bytes) before now r
  pub other : (IsUtf8 bytes → ⊥) → (r ≡ Err NotText) × (now ≡ before)
