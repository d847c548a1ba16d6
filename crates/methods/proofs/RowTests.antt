-- The row test, against what making a row answers; and the test over a list of facts, one by one.
use Rattle.std.proofs.Common.{◌≡◌, ℕ, ◌+◌, ◌<◌, ◌≤◌, not, List, length, get_or, drop, Some, None, Ok, Err, Option, Result, sym, ap, ◌∙◌, subst}
use Rattle.std.specs.Result.{MatchResult, IsErrAnd}
use Rattle.std.proofs.lemmas.List.{at_drop_more, at_drop_all}
use Rattle.rows.specs.declared.fault.Fault.{Fault}
use Rattle.rows.specs.declared.fault.FaultKind.{FaultKind}
use Rattle.rows.specs.declared.fault.FaultKind.TheVariants.{RowNumberTooLarge}
use Rattle.rows.specs.declared.limits.Limit.TheVariants.{RowNumber}
use Rattle.rows.specs.declared.numbers.Numbers.{Numbers}
use Rattle.rows.specs.declared.numbers.TooLarge.{TooLarge}
use Rattle.rows.specs.declared.row.Row.{Row}
use Rattle.rows.specs.Faults.{Said, fault_of, ◌and_then◌, unless_found}
use Rattle.rows.specs.Limits.{items, magnitude_of}
use Rattle.rows.specs.Made.{RowFrom, FirstOver, unless_beyond}
use Rattle.rows.specs.Shapes.{Within, beyond, first_beyond}
use Rattle.rows.proofs.First.{none_first, some_first}
use Rattle.methods.specs.Openings.{row_says, rows_say}

-- numbers within the limit are a row
pub row_ok : (numbers : Numbers) → Within (magnitude_of RowNumber) numbers → row_says numbers ≡ Ok tt
unfolding first_beyond
row_ok numbers w = ap (unless_found RowNumberTooLarge) (none_first (beyond (magnitude_of RowNumber) numbers) items (λ k l. ap not (w k l)))

-- and else the first that is not is the fault
pub row_err : (numbers : Numbers) (i : ℕ) → FirstOver (magnitude_of RowNumber) numbers i → row_says numbers ≡ Err (fault_of RowNumberTooLarge 0 0 i)
unfolding first_beyond
row_err numbers i h = ap (unless_found RowNumberTooLarge) (some_first (beyond (magnitude_of RowNumber) numbers) items i h.0 h.1 h.2)

pub row_from_ok : (numbers : Numbers) (row : Row) → RowFrom numbers (Ok row) → Ok tt ≡ row_says numbers
row_from_ok numbers row h = sym (row_ok numbers h.1)

pub row_from_err : (numbers : Numbers) (f : Fault) → RowFrom numbers (Err f) → Err f ≡ row_says numbers
row_from_err numbers f h = ap (λ (x : Fault). Err x) h.0 ∙ sym (row_err numbers f.item h.1)

-- the row made of the numbers, given up for a yes
pub row_tested : (numbers : Numbers) (made : Result Row Fault) (said : Said) → RowFrom numbers made → MatchResult made (λ row. said ≡ Ok tt) (λ f. said ≡ Err f) → said ≡ row_says numbers
row_tested numbers (Ok row) said h e = e ∙ row_from_ok numbers row h
row_tested numbers (Err f) said h e = e ∙ row_from_err numbers f h

-- a refusal that becomes a fault of that item
module _ (kind : FaultKind) where
  found_fault : (found : Option ℕ) (said : Said) → MatchResult (unless_beyond found) (λ u. said ≡ Ok u) (λ e. IsErrAnd said (λ f. f ≡ fault_of kind 0 0 e.item)) → said ≡ unless_found kind found
  found_fault None said h = h
  found_fault (Some i) (Ok u) h = absurd h
  found_fault (Some i) (Err f) h = ap (λ (x : Fault). Err x) h

  pub refusal : (found : Option ℕ) (held : Result (Unit {0}) TooLarge) (said : Said) → held ≡ unless_beyond found → MatchResult held (λ u. said ≡ Ok u) (λ e. IsErrAnd said (λ f. f ≡ fault_of kind 0 0 e.item)) → said ≡ unless_found kind found
  refusal found held said e h = found_fault found said (subst (λ r. MatchResult r (λ u. said ≡ Ok u) (λ e. IsErrAnd said (λ f. f ≡ fault_of kind 0 0 e.item))) e h)

-- a loop over the facts: what is left says what the whole says
module _ (facts : List Numbers) (i : ℕ) (inv : rows_say (drop i facts) ≡ rows_say facts) where
  pub rows_fault : (d : Numbers) (f : Fault) → i < length facts → row_says (get_or facts i d) ≡ Err f → Err f ≡ rows_say facts
  rows_fault d f l e =
      let s : rows_say (drop i facts) ≡ (row_says (get_or facts i d) and_then rows_say (drop (i + 1) facts)) = at_drop_more rows_say facts i d l in
      let t : (row_says (get_or facts i d) and_then rows_say (drop (i + 1) facts)) ≡ Err f = ap (λ (x : Said). x and_then rows_say (drop (i + 1) facts)) e in
      sym (sym inv ∙ s ∙ t)

  pub rows_more : (d : Numbers) → i < length facts → row_says (get_or facts i d) ≡ Ok tt → rows_say (drop (i + 1) facts) ≡ rows_say facts
  rows_more d l e =
      let s : rows_say (drop i facts) ≡ (row_says (get_or facts i d) and_then rows_say (drop (i + 1) facts)) = at_drop_more rows_say facts i d l in
      let t : (row_says (get_or facts i d) and_then rows_say (drop (i + 1) facts)) ≡ rows_say (drop (i + 1) facts) = ap (λ (x : Said). x and_then rows_say (drop (i + 1) facts)) e in
      sym (sym inv ∙ s ∙ t)

  pub rows_all : length facts ≤ i → Ok tt ≡ rows_say facts
  rows_all l = sym (at_drop_all rows_say facts i l) ∙ inv
