-- Both cuts fall beside a separator or at an end; the parts are then a gap, a word and the rest.
use Rattle.std.proofs.Common.{◌≡◌, ℕ, ◌+◌, ◌-◌, ◌<◌, true, false, List, IsUtf8, length, ap, subst, ⊎_elim, arith, true-eqb, false-eqb}
use Rattle.std.specs.Str.{IsCharBoundary}
use Rattle.std.proofs.lemmas.Bool.{cases_lt}
use Rattle.std.proofs.lemmas.Str.{IsCharBoundary-start, IsCharBoundary-after_ascii}
use Rattle.std.proofs.lemmas.Bool.Decides.{nat_tests}
use Rattle.words.specs.Words.{separator, Front}
use Rattle.words.proofs.Cuts.{Cut, first_word, no_word, words_read}
use Rattle.words.proofs.words.WordsIterator.next.Goals.{After-split_at-2}
use Rattle.words.proofs.words.WordsIterator.next.Goals as goal

separator_ascii : (b : ℕ) → separator b ≡ true → b < 128
separator_ascii b h = grind (arith, nat_tests)

after_blanks : (line : List ℕ) (b : ℕ) → IsUtf8 line → Front true line b → IsCharBoundary line b
after_blanks line b text f =
    ⊎_elim
    (λ some.
    let back : b - 1 + 1 ≡ b = omega arith in
    subst (IsCharBoundary line) back (IsCharBoundary-after_ascii line (b - 1) text (omega (arith, f.within)) (separator_ascii _ (f.all (b - 1) (omega arith)))))
    (λ none. let start : 0 ≡ b = omega arith in subst (IsCharBoundary line) start (IsCharBoundary-start line text))
    (cases_lt 0 b)

pub split_at-requires : goal.split_at-requires
split_at-requires c =
    let same = c.as_bytes.ensures.value in
    after_blanks _ _ (subst IsUtf8 same c.as_bytes.ensures.utf8) (subst (λ l. Front true l c.blanks.result) same c.blanks.ensures)

cut_of : (c : After-split_at-2) → Cut c.args.self.now.rest.now c.split_at.result.1.now c.split_at-2.result.0.now c.split_at-2.result.1.now c.blanks.result c.word_length.result
cut_of c = record {
  gap = subst (λ l. Front true l c.blanks.result) c.as_bytes.ensures.value c.blanks.ensures;
  after = c.split_at.ensures.back;
  solid = subst (λ l. Front false l c.word_length.result) c.as_bytes-2.ensures.value c.word_length.ensures;
  front = c.split_at-2.ensures.front;
  back = c.split_at-2.ensures.back;
}

pub returns-then-is_empty-clause-steps : goal.returns-then-is_empty-clause-steps
returns-then-is_empty-clause-steps c = no_word (cut_of (goal.at.returns-then-is_empty-clause-steps c).After-split_at-2) (true-eqb _ 0 c.if-is_empty.ensures)

pub returns-then-is_empty-clause-handed : goal.returns-then-is_empty-clause-handed
returns-then-is_empty-clause-handed c = no_word (cut_of (goal.at.returns-then-is_empty-clause-handed c).After-split_at-2) (true-eqb _ 0 c.if-is_empty.ensures)

pub returns-then-is_empty-clause-law : goal.returns-then-is_empty-clause-law
returns-then-is_empty-clause-law c = words_read

pub returns-else-is_empty : goal.returns-else-is_empty
returns-else-is_empty c =
    let first = first_word (cut_of (goal.at.returns-else-is_empty c).After-split_at-2) (omega (arith, false-eqb _ 0 c.if-is_empty.ensures)) in
    record {
      steps = first.0;
      goes = record { on = λ _. (tt, tt, omega (arith, ap length first.0)); keeps = tt; rests = λ _. tt };
      handed = first;
      law = words_read;
    }
