-- Rows at a point: the test of a row, and what the search for the first row that is not met says of all.
use Rattle.std.proofs.Common.{◌≡◌, ℕ, ◌<◌, ◌≤◌, Bool, true, false, not, T, List, map, length, get_or, ℤ, ◌≤ℤ◌, Some, None, Option, Decides, IfSome, sym, refl, ap, ◌∙◌, inl, inr, arith}
use lib.Signed.{le_z}
use Rattle.std.proofs.ByRecursion.{All-get_or, All-from_get_or}
use Rattle.std.proofs.lemmas.Int.{ints}
use Rattle.std.proofs.lemmas.Bool.{not-true, not-false, both_ways, cases_lt, cond-true, lt-ltb}
use Rattle.std.proofs.lemmas.List.{length-map, get_or-map}
use Rattle.std.specs.List.{position, position_or_len}
use Rattle.std.proofs.lemmas.List.Quantifiers.{position-Some}
use Rattle.std.proofs.lemmas.List.Sums.{fails_before_first}
use Rattle.rows.specs.declared.numbers.Numbers.{Numbers}
use Rattle.rows.specs.declared.written.WrittenRow.{WrittenRow}
use Rattle.rows.specs.Firsts.{NoneBelow}
use Rattle.rows.specs.Shapes.{Meets, dot}
use Rattle.rows.specs.Zeros.{zero_numbers}
use Rattle.rows.proofs.First.{is_first, none_at}
use Rattle.records.specs.Records.{row_of}
use Rattle.semantics.proofs.Gathering.{within_at}
use Rattle.semantics.specs.Plans.{meets, unmet}
use Rattle.obligations.specs.Unmet.{FirstUnmet}

int_le-decides : (a b : ℤ) → Decides (le_z a b) (a ≤ℤ b)
int_le-decides a b = (λ e. omega (arith, ints, e), λ h. from (le_z a b) h.le)
  where
    from : (t : Bool) → T t → t ≡ true
    from true h = refl
    from false h = absurd h

pub meets_decides : (point : List ℤ) (row : Numbers) → Decides (meets point row) (Meets point row)
meets_decides point row = int_le-decides (dot row.coefficients point) row.bound

-- none is unmet: all are met
pub none_unmet : (point : List ℤ) (rows : List Numbers) (k : ℕ) → length rows ≤ k → NoneBelow (unmet point rows) k → FirstUnmet point rows None
none_unmet point rows k l h =
    let n = none_at (unmet point rows) (length rows) k l h in
    record {
      value = is_first (unmet point rows) (length rows) None n;
      first = n;
      all = All-from_get_or (Meets point) rows zero_numbers (λ i m. (meets_decides point (get_or rows i zero_numbers)).0 (not-false _ (n i m)));
    }

pub some_unmet : (point : List ℤ) (rows : List Numbers) (k : ℕ) → k < length rows → unmet point rows k ≡ true → NoneBelow (unmet point rows) k → FirstUnmet point rows (Some k)
some_unmet point rows k l u h = record {
  value = is_first (unmet point rows) (length rows) (Some k) (l, u, h);
  first = (l, u, h);
  all = λ m. both_ways _ (not-true _ u) ((meets_decides point (get_or rows k zero_numbers)).1 (All-get_or (Meets point) rows k zero_numbers l m));
}

-- the search over the code's rows
module _ (point : List ℤ) (rows : List WrittenRow) where
  abbrev pub fails : WrittenRow → Bool
  fails row = not (meets point (row_of row))

  -- what is known of the row at a place, as of the plain row
  fails_at : (k : ℕ) (b : Bool) → k < length rows → ((d : WrittenRow) → fails (get_or rows k d) ≡ b) → unmet point (map row_of rows) k ≡ b
  fails_at k b l h = let x = (within_at rows k l).0 in ap (λ (r : Numbers). not (meets point r)) (get_or-map row_of rows k x zero_numbers l) ∙ h x

  pub first_unmet_found : (r : Option ℕ) → r ≡ position fails rows → IfSome r (λ i. i < length rows) → FirstUnmet point (map row_of rows) r
  first_unmet_found None e h =
      let n = length-map rows row_of in
      none_unmet point (map row_of rows) (length (map row_of rows)) (omega arith) (λ k l. let m : k < length rows = omega (arith, n, l) in fails_at k false m (λ d. fails_before_first fails rows k d (omega (arith, all, m))))
    where
      -- the search ends behind the last row
      all : length rows ≤ position_or_len fails rows
      all =
          elim (cases_lt (position_or_len fails rows) (length rows)) [
            | inl l ↦ let z : ◌≡◌ {A = Option ℕ} None (Some (position_or_len fails rows)) = e ∙ cond-true _ _ _ (lt-ltb _ _ l) in absurd (cc)
            | inr l ↦ l
          ]
  first_unmet_found (Some i) e l =
      let n = length-map rows row_of in
      let f = λ (d : WrittenRow). position-Some fails rows i d (sym e) in
      some_unmet point (map row_of rows) i (omega (arith, n, l)) (fails_at i true l (λ d. (f d).1)) (λ k m. fails_at k false (omega arith) (λ d. (f d).2 k m))
