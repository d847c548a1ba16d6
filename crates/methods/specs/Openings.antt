-- The tests with which each of our methods begins: not too many facts, and all facts and the goal are rows.
use Rattle.std.specs.Prelude.{ℕ, ◌≤◌, List, [], ◌∷◌, length, take, Ok, nat_le}
use Rattle.std.specs.List.{AllByRecursion}
use Rattle.rows.specs.declared.fault.FaultKind.TheVariants.{TooManyFacts, RowNumberTooLarge}
use Rattle.rows.specs.declared.limits.Limit.TheVariants.{RowNumber}
use Rattle.rows.specs.declared.numbers.Numbers.{Numbers}
use Rattle.rows.specs.Faults.{Said, fault_of, ◌and_then◌, check, unless_found}
use Rattle.rows.specs.Limits.{magnitude_of}
use Rattle.rows.specs.Shapes.{Within, first_beyond}
use Rattle.methods.specs.Questions.{Question, Meaning}

-- the greatest number of facts of a question
abbrev pub most_facts : ℕ
most_facts = 32

-- plain numbers become a row
abbrev pub row_says : Numbers → Said
row_says row = unless_found RowNumberTooLarge (first_beyond (magnitude_of RowNumber) row)

-- each of the numbers does, in their order
abbrev pub rows_say : List Numbers → Said
rows_say [] = Ok tt
rows_say (row ∷ rows) = row_says row and_then rows_say rows

-- no more facts than a question may have, then the facts in their order, then the goal
unfoldable pub opening : List Numbers → Numbers → Said
opening facts goal =
    check (nat_le (length facts) most_facts) (fault_of TooManyFacts 0 0 0)
    and_then rows_say facts
    and_then row_says goal

-- the same about the first `count` rows of a sheet: it has so many rows, and then they and the goal pass
abbrev pub opening_asked : ℕ → List Numbers → Numbers → Said
opening_asked count sheet goal = check (nat_le count (length sheet)) (fault_of TooManyFacts 0 0 0) and_then opening (take count sheet) goal

-- a method of ours: no more facts than the sheet has rows, the opening tests, then its own
unfoldable pub opened : Meaning → Meaning
opened rest q =
    check (nat_le (length q.facts) q.rows) (fault_of TooManyFacts 0 0 0)
    and_then opening q.facts q.goal
    and_then rest q

-- when the opening tests are passed
pub record Opened (facts : List Numbers) (goal : Numbers) : Type 0 where
  pub few : length facts ≤ most_facts
  pub are_rows : AllByRecursion (Within (magnitude_of RowNumber)) facts
  pub goal_is_row : Within (magnitude_of RowNumber) goal

-- at most 32 facts and no more than the sheet's rows, and all facts and the goal are rows
pub record Begun (q : Question) : Type 0 where
  pub in_sheet : length q.facts ≤ q.rows
  pub opened : Opened q.facts q.goal
