-- A line put together from what its words were read as.
use Rattle.std.proofs.Common.{◌≡◌, ℕ, false, eqb, List, [], ◌∷◌, get_or, ℤ, IsErrAnd, ok_or, Some, None, Ok, Err, Option, Result, refl, ap, ◌∙◌, ⊎_elim, arith}
use Rattle.std.specs.List.{AllByRecursion}
use Rattle.std.specs.Str.{bytes_eq}
use Rattle.std.proofs.lemmas.Slice.Eq.{bytes_eq-Decides}
use Rattle.std.proofs.lemmas.Bool.{cond-true, cond-false, cases_Bool, eq-eqb, ne_eqb}
use Rattle.words.specs.declared.errors.LineError.{LineError}
use Rattle.words.specs.declared.errors.LineError.TheVariants.{UnknownCommand}
use Rattle.words.specs.Arguments.{and_then, rest_of, ended, first_number, first_hex}
use Rattle.words.specs.Words.{words_of}
use Rattle.words.proofs.Reading.{handed_err, ended_ok, ended_err}
use Rattle.commands.specs.declared.parser.Command.{Command}
use Rattle.commands.specs.declared.parser.Keyword.{Keyword}
use Rattle.commands.specs.declared.stacks.Stack.{Stack}
use Rattle.commands.specs.Lines.{set_sheet, ask_method, first_method, sheet_rows, sheet_line, ask_line, nothing, keyword_of, keyed, line_by, line_from, line_of}
use Rattle.commands.specs.Names.{named}
use Rattle.commands.specs.Read.{says_in}

-- a word that is no name
pub unlike : (w name : List ℕ) → (w ≡ name → ⊥) → bytes_eq w name ≡ false
unlike w name other = ⊎_elim (λ t. absurd (other ((bytes_eq-Decides w name).0 t))) (λ f. f) (cases_Bool (bytes_eq w name))

-- a word that no entry names
pub named_none : {X : Type 0} (table : List (List ℕ × X)) (w : List ℕ) → AllByRecursion (λ e. w ≡ e.0 → ⊥) table → named table w ≡ None
named_none [] w h = refl
named_none (e ∷ table) w h = cond-false (bytes_eq w e.0) _ _ (unlike w e.0 h.0) ∙ named_none table w h.1

-- an error that is handed on
pub handed_on : (r : Result Command LineError) (e : LineError) → IsErrAnd r (λ y. y ≡ e) → says_in r ≡ Err e
handed_on r e h = ap says_in (handed_err r e h)

-- `ask`, argument by argument
module _ (ws : List (List ℕ)) where
  pub ask_method_lem : (e : LineError) → first_method ws ≡ Err e → ask_line ws ≡ Err e
  unfolding ask_line
  ask_method_lem e h = ap (λ r. and_then r (λ s. and_then (first_hex (rest_of ws)) (λ h. ended (ask_method s h) (rest_of (rest_of ws))))) h

  ask_behind : (s : Stack) → first_method ws ≡ Ok s → ask_line ws ≡ and_then (first_hex (rest_of ws)) (λ h. ended (ask_method s h) (rest_of (rest_of ws)))
  unfolding ask_line
  ask_behind s h = ap (λ r. and_then r (λ s. and_then (first_hex (rest_of ws)) (λ h. ended (ask_method s h) (rest_of (rest_of ws))))) h

  pub ask_hex : (s : Stack) (e : LineError) → first_method ws ≡ Ok s → first_hex (rest_of ws) ≡ Err e → ask_line ws ≡ Err e
  ask_hex s e h k = ask_behind s h ∙ ap (λ r. and_then r (λ h. ended (ask_method s h) (rest_of (rest_of ws)))) k

  pub ask_end : (s : Stack) (word : List ℕ) → first_method ws ≡ Ok s → first_hex (rest_of ws) ≡ Ok word → ask_line ws ≡ ended (ask_method s word) (rest_of (rest_of ws))
  ask_end s word h k = ask_behind s h ∙ ap (λ r. and_then r (λ h. ended (ask_method s h) (rest_of (rest_of ws)))) k

  -- `sheet`, the same
  pub sheet_number : (e : LineError) → first_number ws ≡ Err e → sheet_line ws ≡ Err e
  unfolding sheet_line
  sheet_number e h = ap (λ r. and_then r (λ z. and_then (ended z (rest_of ws)) (λ y. and_then (sheet_rows y) (λ n. Ok (set_sheet n))))) h

  sheet_behind : (z : ℤ) → first_number ws ≡ Ok z → sheet_line ws ≡ and_then (ended z (rest_of ws)) (λ y. and_then (sheet_rows y) (λ n. Ok (set_sheet n)))
  unfolding sheet_line
  sheet_behind z h = ap (λ r. and_then r (λ z. and_then (ended z (rest_of ws)) (λ y. and_then (sheet_rows y) (λ n. Ok (set_sheet n))))) h

  pub sheet_more : {U : Type 0} (u : U) (z : ℤ) (e : LineError) → first_number ws ≡ Ok z → ended u (rest_of ws) ≡ Err e → sheet_line ws ≡ Err e
  sheet_more u z e h k = sheet_behind z h ∙ ap (λ r. and_then r (λ y. and_then (sheet_rows y) (λ n. Ok (set_sheet n)))) (ended_err u z (rest_of ws) e k)

  pub sheet_end : {U : Type 0} (u : U) (z : ℤ) → first_number ws ≡ Ok z → ended u (rest_of ws) ≡ Ok u → sheet_line ws ≡ and_then (sheet_rows z) (λ n. Ok (set_sheet n))
  sheet_end u z h k = sheet_behind z h ∙ ap (λ r. and_then r (λ y. and_then (sheet_rows y) (λ n. Ok (set_sheet n)))) (ended_ok u z (rest_of ws) k)

-- a line by its words
pub line_none : (bytes : List ℕ) → words_of bytes ≡ [] → line_of bytes ≡ Ok nothing
unfolding line_of
line_none bytes h = ap line_from h

module _ (bytes w : List ℕ) (ws : List (List ℕ)) (words : words_of bytes ≡ w ∷ ws) where
  pub line_comment : get_or w 0 0 ≡ 35 → line_of bytes ≡ Ok nothing
  unfolding line_of
  line_comment h = ap line_from words ∙ cond-true (eqb (get_or w 0 0) 35) _ _ (eq-eqb _ 35 h)

  pub line_keyed : (get_or w 0 0 ≡ 35 → ⊥) → (k : Option Keyword) → keyword_of w ≡ k → line_of bytes ≡ keyed k ws
  unfolding line_of
  line_keyed h k e = ap line_from words ∙ cond-false (eqb (get_or w 0 0) 35) _ _ (ne_eqb _ 35 h) ∙ ap (λ o. keyed o ws) e

  pub line_known : (get_or w 0 0 ≡ 35 → ⊥) → (k : Keyword) → ok_or (keyword_of w) UnknownCommand ≡ Ok k → line_of bytes ≡ line_by k ws
  line_known h k some = line_keyed h (keyword_of w) refl ∙ known (keyword_of w) some
    where
      known : (o : Option Keyword) → ok_or o UnknownCommand ≡ Ok k → keyed o ws ≡ line_by k ws
      known None some = let z : ◌≡◌ {A = ℕ} 0 1 = cc in absurd (omega arith)
      known (Some j) some = let same : j ≡ k = cc in ap (λ x. line_by x ws) same

  pub line_unknown : (get_or w 0 0 ≡ 35 → ⊥) → (e : LineError) → ok_or (keyword_of w) UnknownCommand ≡ Err e → line_of bytes ≡ Err e
  line_unknown h e none = line_keyed h (keyword_of w) refl ∙ unknown (keyword_of w) none
    where
      unknown : (o : Option Keyword) → ok_or o UnknownCommand ≡ Err e → keyed o ws ≡ Err e
      unknown None none = let same : UnknownCommand ≡ e = cc in ap Err same
      unknown (Some k) none = let z : ◌≡◌ {A = ℕ} 0 1 = cc in absurd (omega arith)
