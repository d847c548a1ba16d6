-- Worked examples of questions to proof methods: what each answers, as an equation that computes. All rows are over the
-- first state value, called a.
use Rattle.std.specs.Prelude.{◌≡◌, ℕ, List, [], ◌∷◌, ◌++◌, replicate, ℤ, pos, negsuc, Ok, Err}
use Rattle.rows.specs.declared.fault.FaultKind.TheVariants.{TooManyFacts, BoundNotShown, LayerRowTooLarge}
use Rattle.rows.specs.declared.numbers.Numbers.{Numbers}
use Rattle.rows.specs.Faults.{fault_of, moved}
use Rattle.rows.specs.Limits.{columns}
use Rattle.methods.specs.Cuts.{cut_says}
use Rattle.methods.specs.LooksUp.{look_up_says}
use Rattle.methods.specs.Questions.{Question, question, asked}
use Rattle.methods.specs.Splits.{split_says}
use Rattle.methods.specs.Sums.{multipliers_say}

-- the row c × a ≤ b
abbrev pub first : ℤ → ℤ → Numbers
first c b = record { coefficients = c ∷ replicate 7 (pos 0); bound = b }

-- one fact and a goal on a sheet of 32 rows
abbrev pub about : Numbers → Numbers → List ℕ → Question
about fact goal certificate = question (fact ∷ []) goal certificate 32

-- two-byte numbers, the highest byte first, of numbers below 256
abbrev pub words : List ℕ → List ℕ
words [] = []
words (n ∷ ns) = 0 ∷ n ∷ words ns

-- a cut by 2 of one fact, taken once
abbrev pub cut_by2 : List ℕ
cut_by2 = 1 ∷ words (2 ∷ 1 ∷ [])

-- a fact as often as n says, and itself as goal, on a sheet of 40 rows
abbrev pub repeated : ℕ → Question
repeated n = question (replicate n (first (pos 1) (pos 1))) (first (pos 1) (pos 1)) [] 40

-- a split whose row has one coefficient, written in four bytes, and else zeros; both lower certificates are empty
abbrev pub split_by : List ℕ → Question
split_by coefficient = about (first (pos 1) (pos 1)) (first (pos 1) (pos 1)) (1 ∷ coefficient ++ replicate 34 0)

-- the same with the row's bound in place of the coefficient
abbrev pub split_at : List ℕ → Question
split_at bound = about (first (pos 1) (pos 1)) (first (pos 1) (pos 1)) (1 ∷ replicate 32 0 ++ bound ++ replicate 2 0)

pub record MethodExamples : Type 0 where
  -- 2a ≤ 3 taken once does not show a ≤ 1 taken twice: 3 is over 2 × 1
  pub not_by_multipliers : multipliers_say (about (first (pos 2) (pos 3)) (first (pos 1) (pos 1)) (words (2 ∷ 1 ∷ []))) ≡ Err (fault_of BoundNotShown 0 0 columns)
  -- cut by 2 it is a ≤ 1
  pub by_cut : cut_says multipliers_say (about (first (pos 2) (pos 3)) (first (pos 1) (pos 1)) (cut_by2 ++ words (1 ∷ 0 ∷ 1 ∷ []))) ≡ Ok tt
  -- −2a ≤ −3 cut by 2 is −a ≤ −2, since −3 divided by 2 is rounded down
  pub rounded_down_lem : cut_says look_up_says (about (first (negsuc 1) (negsuc 2)) (first (negsuc 0) (negsuc 1)) cut_by2) ≡ Ok tt
  -- and not −a ≤ −3: the look-up below finds no such fact
  pub no_further : cut_says look_up_says (about (first (negsuc 1) (negsuc 2)) (first (negsuc 0) (negsuc 2)) cut_by2) ≡ Err (fault_of BoundNotShown 5 1 columns)
  -- 32 facts pass, 33 do not
  pub most_facts_lem : look_up_says (repeated 32) ≡ Ok tt
  pub too_many_facts : look_up_says (repeated 33) ≡ Err (fault_of TooManyFacts 0 0 0)
  -- a split's number of 1,000,000 or −1,000,000 is taken, one beyond is refused where it stands
  pub greatest_number : split_says look_up_says (split_by (0 ∷ 15 ∷ 66 ∷ 64 ∷ [])) ≡ Ok tt
  pub number_too_great : split_says look_up_says (split_by (0 ∷ 15 ∷ 66 ∷ 65 ∷ [])) ≡ Err (fault_of LayerRowTooLarge 1 0 0)
  pub least_number : split_says look_up_says (split_by (255 ∷ 240 ∷ 189 ∷ 192 ∷ [])) ≡ Ok tt
  pub number_too_small : split_says look_up_says (split_by (255 ∷ 240 ∷ 189 ∷ 191 ∷ [])) ≡ Err (fault_of LayerRowTooLarge 1 0 0)
  pub greatest_bound : split_says look_up_says (split_at (0 ∷ 15 ∷ 66 ∷ 64 ∷ [])) ≡ Ok tt
  pub bound_too_great : split_says look_up_says (split_at (0 ∷ 15 ∷ 66 ∷ 65 ∷ [])) ≡ Err (fault_of LayerRowTooLarge 33 0 columns)
  -- three layers that hand down: the fault of the look-up climbs to place 3 and depth 3
  pub climbed : split_says (cut_says (split_says look_up_says)) (about (first (pos 1) (pos 1)) (first (pos 1) (pos 0)) (replicate 3 0)) ≡ Err (fault_of BoundNotShown 3 3 columns)
  -- a depth of 255 stays
  pub deepest : moved 1 (Err (fault_of BoundNotShown 0 255 columns)) ≡ Err (fault_of BoundNotShown 1 255 columns)
  -- four facts are counted on a sheet of three rows
  pub beyond_the_sheet : asked look_up_says 4 (replicate 3 (first (pos 1) (pos 1))) (first (pos 1) (pos 1)) [] ≡ Err (fault_of TooManyFacts 0 0 0)
