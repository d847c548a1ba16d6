-- Proofs, and nothing to believe: what a yes of the opening tests says, and where their faults stand. They stand here
-- since the laws of the methods rest on them, and a contract may name no file of proofs/.
use Rattle.std.specs.Prelude.{◌≡◌, not, List, [], ◌∷◌, length, Ok, Err, nat_le, refl}
use Rattle.std.proofs.Common.{sym, ap}
use Rattle.std.proofs.lemmas.Bool.{leb-true, le-leb, not-false}
use Rattle.std.specs.List.{AllByRecursion}
use Rattle.rows.specs.declared.fault.Fault.{Fault}
use Rattle.rows.specs.declared.fault.FaultKind.TheVariants.{TooManyFacts, RowNumberTooLarge}
use Rattle.rows.specs.declared.limits.Limit.TheVariants.{RowNumber}
use Rattle.rows.specs.declared.numbers.Numbers.{Numbers}
use Rattle.rows.specs.Faults.{fault_of, ◌and_then◌, check, unless_found}
use Rattle.rows.specs.Limits.{items, magnitude_of}
use Rattle.rows.specs.Shapes.{Within, beyond, first_beyond}
use Rattle.rows.proofs.Chains.{both, check_true, checked, goes, found_none, either, never, check_place, found_place}
use Rattle.rows.proofs.First.{none_first, first_none}
use Rattle.methods.specs.Openings.{most_facts, row_says, rows_say, opening, opened, Opened, Begun}
use Rattle.methods.specs.Questions.{Question, Meaning}

pub row_yes : (row : Numbers) → row_says row ≡ Ok tt → Within (magnitude_of RowNumber) row
unfolding first_beyond
row_yes row e k l = not-false _ (first_none (beyond (magnitude_of RowNumber) row) items (found_none RowNumberTooLarge _ e) k l)

pub yes_row : (row : Numbers) → Within (magnitude_of RowNumber) row → Ok tt ≡ row_says row
unfolding first_beyond
yes_row row w = sym (ap (unless_found RowNumberTooLarge) (none_first (beyond (magnitude_of RowNumber) row) items (λ k l. ap not (w k l))))

pub rows_yes : (rows : List Numbers) → rows_say rows ≡ Ok tt → AllByRecursion (Within (magnitude_of RowNumber)) rows
rows_yes [] e = tt
rows_yes (row ∷ rows) e = let p = both (row_says row) (rows_say rows) e in (row_yes row p.0, rows_yes rows p.1)

pub yes_rows : (rows : List Numbers) → AllByRecursion (Within (magnitude_of RowNumber)) rows → Ok tt ≡ rows_say rows
yes_rows [] a = refl
yes_rows (row ∷ rows) a = goes (row_says row) (rows_say rows) (Ok tt) (yes_row row a.0) (yes_rows rows a.1)

pub opening_yes : (facts : List Numbers) (goal : Numbers) → opening facts goal ≡ Ok tt → Opened facts goal
unfolding opening
opening_yes facts goal e =
    let p = both (check (nat_le (length facts) most_facts) (fault_of TooManyFacts 0 0 0)) (rows_say facts and_then row_says goal) e in
    let q = both (rows_say facts) (row_says goal) p.1 in
    record { few = leb-true _ _ (check_true _ _ p.0); are_rows = rows_yes facts q.0; goal_is_row = row_yes goal q.1 }

pub yes_opening : (facts : List Numbers) (goal : Numbers) → Opened facts goal → Ok tt ≡ opening facts goal
unfolding opening
yes_opening facts goal o =
    goes _ _ _ (checked _ _ (le-leb _ _ o.few)) (goes _ _ _ (yes_rows facts o.are_rows) (yes_row goal o.goal_is_row))

-- a yes of a method of ours: its beginning and the rest
pub opened_yes : (rest : Meaning) (q : Question) → opened rest q ≡ Ok tt → Begun q × (rest q ≡ Ok tt)
unfolding opened
opened_yes rest q e =
    let p = both (check (nat_le (length q.facts) q.rows) (fault_of TooManyFacts 0 0 0)) (opening q.facts q.goal and_then rest q) e in
    let s = both (opening q.facts q.goal) (rest q) p.1 in
    (record { in_sheet = leb-true _ _ (check_true _ _ p.0); opened = opening_yes q.facts q.goal s.0 }, s.1)

pub yes_opened : (rest : Meaning) (q : Question) → Begun q → rest q ≡ Ok tt → opened rest q ≡ Ok tt
unfolding opened
yes_opened rest q b e =
    sym (goes _ _ _ (checked _ _ (le-leb _ _ b.in_sheet)) (goes _ _ _ (yes_opening q.facts q.goal b.opened) (sym e)))

-- where the faults of the opening tests stand: at the certificate's first byte
rows_place : (rows : List Numbers) (f : Fault) → rows_say rows ≡ Err f → f.place ≡ 0
rows_place [] f e = never f (sym e)
rows_place (row ∷ rows) f e = either (row_says row) (rows_say rows) f e (found_place RowNumberTooLarge _ f) (rows_place rows f)

pub opened_place : {G : Type 0} (rest : Meaning) (q : Question) (f : Fault) → opened rest q ≡ Err f → (f.place ≡ 0 → G) → (rest q ≡ Err f → G) → G
unfolding opened opening
opened_place rest q f e z r =
    either (check (nat_le (length q.facts) q.rows) (fault_of TooManyFacts 0 0 0)) (opening q.facts q.goal and_then rest q) f e
    (λ h. z (check_place _ TooManyFacts 0 f h))
    (λ h. either (opening q.facts q.goal) (rest q) f h
    (λ o. either (check (nat_le (length q.facts) most_facts) (fault_of TooManyFacts 0 0 0)) (rows_say q.facts and_then row_says q.goal) f o
    (λ c. z (check_place _ TooManyFacts 0 f c))
    (λ c. either (rows_say q.facts) (row_says q.goal) f c (λ a. z (rows_place q.facts f a)) (λ a. z (found_place RowNumberTooLarge _ f a))))
    r)
