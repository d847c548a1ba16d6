-- A command that is written as a line is read again, and what a line says may be said.
use Rattle.std.proofs.Common.{◌≡◌, ℕ, ◌<◌, ◌≤◌, true, eqb, leb, List, [], ◌∷◌, ◌++◌, map, length, get_or, ℤ, pos, negsuc, is_ok, Some, None, Ok, Err, codes, decimal, Option, Result, sym, refl, ap, ◌∙◌, subst, arith}
use Rattle.std.specs.Fmt.{signed_decimal}
use Rattle.std.specs.List.{AllByRecursion}
use Rattle.std.proofs.ByRecursion.{All-append, All-map, All-weaker}
use Rattle.std.proofs.lemmas.List.{length-append}
use Rattle.std.proofs.lemmas.Bool.{cond-true, cond_both, leb-true, le-leb}
use Rattle.rows.specs.declared.numbers.Numbers.{Numbers}
use Rattle.words.specs.declared.errors.LineError.{LineError}
use Rattle.words.specs.declared.errors.LineError.TheVariants.{UnknownCommand, SheetRows, MissingHex}
use Rattle.words.specs.Hex.{hex_bytes, checked}
use Rattle.words.specs.Arguments.{and_then, rest_of, ended, first_number, first_hex, nine_numbers, items_of, Nine}
use Rattle.words.specs.Words.{words_of, Word, spaced}
use Rattle.words.proofs.Cuts.{words_read}
use Rattle.words.proofs.Decimal.{decimals_read}
use Rattle.words.proofs.Numbers.{numbers_read, refused, then_parts, ended_value}
use Rattle.words.proofs.Written.{Dark, dark_all, word_decimal, word_signed, word_hex, readable}
use Rattle.commands.specs.declared.parser.Keyword.{Keyword}
use Rattle.commands.specs.declared.parser.Keyword.TheVariants.{Sheet, Fact, Goal, Forget, Row, Ask}
use Rattle.commands.specs.declared.stacks.Base.{Base}
use Rattle.commands.specs.declared.stacks.Base.TheVariants.{Multipliers, LookUp}
use Rattle.commands.specs.declared.stacks.Layer.{Layer}
use Rattle.commands.specs.declared.stacks.Layer.TheVariants.{Cut, Split}
use Rattle.commands.specs.declared.stacks.Stack.{Stack}
use Rattle.commands.specs.declared.stacks.Stack.TheVariants.{Bare, Single, Double}
use Rattle.commands.specs.Lines.{Line, nothing, set_sheet, add_fact, set_goal, forget_all, make_row, ask_method, first_method, method_of, most_rows, sheet_rows, sheet_line, ask_line, line_by, keyword_of, keyed, line_from, line_of}
use Rattle.commands.specs.Saying.{line_words, Sayable, LinesRead}
use Rattle.commands.specs.Stacks.{base_name, layer_name, stack_text}
use Rattle.commands.proofs.Parsing.{sheet_end, ask_end}
use Rattle.commands.proofs.Stacking.{stacks_read}

dark_base : (b : Base) → Dark (base_name b)
dark_base Multipliers = dark_all (codes "multipliers") refl
dark_base LookUp = dark_all (codes "look-up") refl

dark_layer : (l : Layer) → Dark (layer_name l)
dark_layer Cut = dark_all (codes "cut") refl
dark_layer Split = dark_all (codes "split") refl

some_base : (b : Base) → 0 < length (base_name b)
some_base Multipliers = omega arith
some_base LookUp = omega arith

dark_over : (l : Layer) (w : List ℕ) → Dark w → Word (layer_name l ++ 47 ∷ w)
dark_over l w h = (omega (arith, length-append (layer_name l) (47 ∷ w)), All-append _ (layer_name l) (47 ∷ w) (dark_layer l) (refl, h))

word_stack : (s : Stack) → Word (stack_text s)
word_stack (Bare b) = (some_base b, dark_base b)
word_stack (Single l b) = dark_over l (base_name b) (dark_base b)
word_stack (Double l m b) = dark_over l _ (dark_over m (base_name b) (dark_base b)).1

-- the words of a command are words
words_nine : (name : List ℕ) (r : Numbers) → Word name → Nine r → AllByRecursion Word (name ∷ map signed_decimal (items_of r))
words_nine name r h nine = (h, All-map Word signed_decimal (items_of r) (All-weaker _ (λ z. Word (signed_decimal z)) (λ z k. word_signed z k) (items_of r) nine.1))

words_said : (l : Line) → Sayable l → AllByRecursion Word (line_words l)
words_said nothing h = tt
words_said (set_sheet n) h = ((omega arith, dark_all (codes "sheet") refl), (word_decimal n (omega arith), tt))
words_said (add_fact r) h = words_nine (codes "fact") r (omega arith, dark_all (codes "fact") refl) h
words_said (set_goal r) h = words_nine (codes "goal") r (omega arith, dark_all (codes "goal") refl) h
words_said forget_all h = ((omega arith, dark_all (codes "forget") refl), tt)
words_said (make_row r) h = words_nine (codes "row") r (omega arith, dark_all (codes "row") refl) h
words_said (ask_method s w) h = ((omega arith, dark_all (codes "ask") refl), (word_stack s, (word_hex w h.0 h.1, tt)))

-- what the words of a command say
said : (l : Line) → Sayable l → line_from (line_words l) ≡ Ok l
said nothing h = refl
said (set_sheet n) h =
    sheet_end (decimal n ∷ []) (tt {0}) (pos n) (decimals_read (pos n) (omega arith)) refl
    ∙ ap (λ r. and_then r (λ m. Ok (set_sheet m))) (cond-true (leb n 64) _ _ (le-leb n 64 h))
said (add_fact r) h = ap (λ q. and_then q (λ n. Ok (add_fact n))) (numbers_read.back r h)
said (set_goal r) h = ap (λ q. and_then q (λ n. Ok (set_goal n))) (numbers_read.back r h)
said forget_all h = refl
said (make_row r) h = ap (λ q. and_then q (λ n. Ok (make_row n))) (numbers_read.back r h)
said (ask_method s w) h = ask_end (stack_text s ∷ w ∷ []) s w (ap method_of (stacks_read.back s)) (readable (hex_bytes w) w h.1)

back : (l : Line) → Sayable l → line_of (spaced (line_words l)) ≡ Ok l
unfolding line_of
back l h = ap line_from (words_read.back (line_words l) (words_said l h)) ∙ said l h

-- what each command says may be said
sheet_small : (ws : List (List ℕ)) (l : Line) → sheet_line ws ≡ Ok l → Sayable l
unfolding sheet_line
sheet_small ws l h =
    let p = then_parts (first_number ws) (λ z. and_then (ended z (rest_of ws)) (λ y. and_then (sheet_rows y) (λ n. Ok (set_sheet n)))) l h in
    let q = then_parts (ended p.0 (rest_of ws)) (λ y. and_then (sheet_rows y) (λ n. Ok (set_sheet n))) l p.1.1 in
    let s = then_parts (sheet_rows q.0) (λ n. Ok (set_sheet n)) l q.1.1 in
    let same : set_sheet s.0 ≡ l = let e = s.1.1 in cc in
    subst Sayable same (rows_small q.0 s.0 s.1.0)
  where
    rows_small : (y : ℤ) (n : ℕ) → sheet_rows y ≡ Ok n → n ≤ most_rows
    rows_small (pos m) n e =
        cond_both (leb m most_rows) (Ok m) (Err SheetRows) (λ r. r ≡ Ok n → n ≤ most_rows)
        (λ t k. let v : m ≡ n = cc in subst (λ x. x ≤ most_rows) v (leb-true m most_rows t)) (λ _ k. refused SheetRows n k) e
    rows_small (negsuc m) n e = refused SheetRows n e

ask_small : (ws : List (List ℕ)) (l : Line) → AllByRecursion Word ws → ask_line ws ≡ Ok l → Sayable l
unfolding ask_line
ask_small ws l words h =
    let p = then_parts (first_method ws) (λ s. and_then (first_hex (rest_of ws)) (λ v. ended (ask_method s v) (rest_of (rest_of ws)))) l h in
    let q = then_parts (first_hex (rest_of ws)) (λ v. ended (ask_method p.0 v) (rest_of (rest_of ws))) l p.1.1 in
    subst Sayable (ended_value (ask_method p.0 q.0) l (rest_of (rest_of ws)) q.1.1) (hex_word (rest_of ws) q.0 (behind ws words) q.1.0)
  where
    behind : (vs : List (List ℕ)) → AllByRecursion Word vs → AllByRecursion Word (rest_of vs)
    behind [] k = tt
    behind (v ∷ vs) k = k.1

    readable_only : (r : Result (List ℕ) LineError) (v u : List ℕ) → checked r v ≡ Ok u → (v ≡ u) × (is_ok r ≡ true)
    readable_only (Ok bs) v u k = (cc, refl)
    readable_only (Err e) v u k = refused e u k

    hex_word : (vs : List (List ℕ)) (u : List ℕ) → AllByRecursion Word vs → first_hex vs ≡ Ok u → (0 < length u) × (is_ok (hex_bytes u) ≡ true)
    hex_word [] u k e = refused MissingHex u e
    hex_word (v ∷ vs) u k e =
        let p = readable_only (hex_bytes v) v u e in
        (subst (λ x. 0 < length x) p.0 k.0.0, ap (λ x. is_ok (hex_bytes x)) (sym p.0) ∙ p.1)

nine_said : (f : Numbers → Line) (ws : List (List ℕ)) (l : Line) → ((r : Numbers) → Nine r → Sayable (f r)) → and_then (nine_numbers ws) (λ r. Ok (f r)) ≡ Ok l → Sayable l
nine_said f ws l say h =
    let p = then_parts (nine_numbers ws) (λ r. Ok (f r)) l h in
    let same : f p.0 ≡ l = let e = p.1.1 in cc in
    subst Sayable same (say p.0 (numbers_read.only ws p.0 p.1.0))

by_small : (k : Keyword) (ws : List (List ℕ)) (l : Line) → AllByRecursion Word ws → line_by k ws ≡ Ok l → Sayable l
by_small Sheet ws l words h = sheet_small ws l h
by_small Fact ws l words h = nine_said add_fact ws l (λ r n. n) h
by_small Goal ws l words h = nine_said set_goal ws l (λ r n. n) h
by_small Forget ws l words h = subst Sayable (ended_value forget_all l ws h) tt
by_small Row ws l words h = nine_said make_row ws l (λ r n. n) h
by_small Ask ws l words h = ask_small ws l words h

keyed_small : (o : Option Keyword) (ws : List (List ℕ)) (l : Line) → AllByRecursion Word ws → keyed o ws ≡ Ok l → Sayable l
keyed_small None ws l words h = refused UnknownCommand l h
keyed_small (Some k) ws l words h = by_small k ws l words h

nothing_said : (l : Line) → ◌≡◌ {A = Result Line LineError} (Ok nothing) (Ok l) → Sayable l
nothing_said l h = let same : nothing ≡ l = cc in subst Sayable same tt

from_small : (ws : List (List ℕ)) (l : Line) → AllByRecursion Word ws → line_from ws ≡ Ok l → Sayable l
from_small [] l words h = nothing_said l h
from_small (w ∷ ws) l words h =
    cond_both (eqb (get_or w 0 0) 35) (Ok nothing) (keyed (keyword_of w) ws) (λ r. r ≡ Ok l → Sayable l)
    (λ _ e. nothing_said l e) (λ _ e. keyed_small (keyword_of w) ws l words.1 e) h

only : (bytes : List ℕ) (l : Line) → line_of bytes ≡ Ok l → Sayable l
unfolding line_of
only bytes l h = from_small (words_of bytes) l (words_read.only bytes) h

pub lines_read : LinesRead
lines_read = record { back = back; only = only }
