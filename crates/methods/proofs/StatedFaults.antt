-- The faults of the base methods hold zero wherever their kind names nothing.
use Rattle.std.proofs.Common.{◌≡◌, ℕ, ◌+◌, ◌*◌, Bool, true, false, eqb, leb, List, [], ◌∷◌, length, Some, None, Ok, Err, Option, sym, refl, ◌∙◌, subst, inl, inr}
use lib.Signed.{le_z}
use Rattle.std.proofs.lemmas.Bool.{cases_lt}
use Rattle.rows.specs.declared.fault.Fault.{Fault}
use Rattle.rows.specs.declared.fault.FaultKind.{FaultKind}
use Rattle.rows.specs.declared.fault.FaultKind.TheVariants.{TooManyFacts, RowNumberTooLarge, CertificateLength, MultiplierRange, ColumnDiffers, BoundNotShown}
use Rattle.rows.specs.declared.limits.Limit.TheVariants.{RowNumber}
use Rattle.rows.specs.declared.numbers.Numbers.{Numbers}
use Rattle.rows.specs.Faults.{Said, Stated, fault_of, ◌and_then◌, check, unless_found}
use Rattle.rows.specs.Limits.{columns, magnitude_of}
use Rattle.rows.specs.Firsts.{first_below}
use Rattle.rows.specs.Shapes.{first_beyond}
use Rattle.rows.proofs.Chains.{never}
use Rattle.methods.specs.LooksUp.{listed, search_says, look_up_says}
use Rattle.methods.specs.Openings.{most_facts, row_says, rows_say, opening, opened}
use Rattle.methods.specs.Questions.{Question, Meaning, asked}
use Rattle.methods.specs.Sums.{weights_from, scaled, differs, sums_say, multipliers_say}
use Rattle.methods.specs.Weights.{range_says, weights_say, weighted}
use Rattle.methods.proofs.Asked.{asked_many, asked_within}

-- every fault of an answer is stated
AllStated : Said → Type 0
AllStated said = (f : Fault) → said ≡ Err f → Stated f

both_stated : (first rest : Said) → AllStated first → AllStated rest → AllStated (first and_then rest)
unfolding AllStated
both_stated (Ok tt) rest a b f e = b f e
both_stated (Err x) rest a b f e = a f e

check_stated : (test : Bool) (x : Fault) → Stated x → AllStated (check test x)
unfolding AllStated
check_stated true x s f e = never f (sym e)
check_stated false x s f e = let h : x ≡ f = cc in subst Stated h s

found_stated : (kind : FaultKind) (o : Option ℕ) → ((i : ℕ) → Stated (fault_of kind 0 0 i)) → AllStated (unless_found kind o)
unfolding AllStated
found_stated kind None s f e = never f (sym e)
found_stated kind (Some i) s f e = let h : fault_of kind 0 0 i ≡ f = cc in subst Stated h (s i)

rows_stated : (rows : List Numbers) → AllStated (rows_say rows)
unfolding AllStated
rows_stated [] f e = never f (sym e)
rows_stated (row ∷ rows) f e = both_stated (row_says row) (rows_say rows) (found_stated RowNumberTooLarge _ (λ i. record { place = tt; depth = tt; item = tt })) (rows_stated rows) f e

opened_stated : (rest : Meaning) (q : Question) → AllStated (rest q) → AllStated (opened rest q)
unfolding opened opening
opened_stated rest q r =
    both_stated _ _ (check_stated (leb (length q.facts) q.rows) (fault_of TooManyFacts 0 0 0) (record { place = tt; depth = tt; item = refl }))
    (both_stated _ _
    (both_stated _ _ (check_stated (leb (length q.facts) most_facts) (fault_of TooManyFacts 0 0 0) (record { place = tt; depth = tt; item = refl }))
    (both_stated _ _ (rows_stated q.facts) (found_stated RowNumberTooLarge (first_beyond (magnitude_of RowNumber) q.goal) (λ i. record { place = tt; depth = tt; item = tt }))))
    r)

range_stated : (least : ℕ) (bytes : List ℕ) (at : ℕ) → AllStated (range_says least bytes at)
range_stated least bytes at = check_stated _ (fault_of MultiplierRange at 0 0) (record { place = tt; depth = tt; item = refl })

weights_stated : (bytes : List ℕ) (at : ℕ) (facts : List Numbers) → AllStated (weights_say bytes at facts)
unfolding AllStated
weights_stated bytes at [] f e = never f (sym e)
weights_stated bytes at (x ∷ xs) f e = both_stated (range_says 0 bytes at) (weights_say bytes (at + 2) xs) (range_stated 0 bytes at) (weights_stated bytes (at + 2) xs) f e

multipliers_stated : (q : Question) → AllStated (multipliers_say q)
unfolding sums_say
multipliers_stated q =
    opened_stated (λ q. sums_say q.facts q.goal q.certificate) q
    (both_stated _ _ (check_stated (eqb (length q.certificate) (weights_from + 2 * length q.facts)) (fault_of CertificateLength 0 0 0) (record { place = tt; depth = tt; item = refl }))
    (both_stated _ _ (range_stated 1 q.certificate 0)
    (both_stated _ _ (weights_stated q.certificate weights_from q.facts)
    (both_stated _ _ (found_stated ColumnDiffers (first_below (differs q.facts q.goal q.certificate) columns) (λ i. record { place = tt; depth = tt; item = tt }))
    (check_stated (le_z (weighted columns q.certificate weights_from q.facts) (scaled q.goal q.certificate columns)) (fault_of BoundNotShown 0 0 columns) (record { place = tt; depth = tt; item = tt }))))))

look_up_stated : (q : Question) → AllStated (look_up_says q)
unfolding search_says
look_up_stated q =
    opened_stated (λ q. search_says q.facts q.goal q.certificate) q
    (both_stated _ _ (check_stated (eqb (length q.certificate) 0) (fault_of CertificateLength 0 0 0) (record { place = tt; depth = tt; item = refl }))
    (check_stated (listed q.goal q.facts) (fault_of BoundNotShown 0 0 columns) (record { place = tt; depth = tt; item = tt })))

-- the same of a question with a sheet and a count
asked_stated : (meaning : Meaning) → ((q : Question) → AllStated (meaning q)) → (count : ℕ) (sheet : List Numbers) (goal : Numbers) (certificate : List ℕ) (said : Said) →
    said ≡ asked meaning count sheet goal certificate → (f : Fault) → said ≡ Err f → Stated f
unfolding AllStated
asked_stated meaning s count sheet goal certificate said e f x =
    elim (cases_lt (length sheet) count) [
      | inl l ↦ let h : fault_of TooManyFacts 0 0 0 ≡ f = same (asked_many count sheet goal certificate meaning l ∙ sym e ∙ x) in subst Stated h (record { place = tt; depth = tt; item = refl })
      | inr l ↦ s _ f (sym (asked_within count sheet goal certificate meaning l) ∙ sym e ∙ x)
    ]
  where
    same : {a b : Fault} → ◌≡◌ {A = Said} (Err a) (Err b) → a ≡ b
    same h = cc

pub multipliers_faults : (count : ℕ) (sheet : List Numbers) (goal : Numbers) (certificate : List ℕ) (said : Said) → said ≡ asked multipliers_say count sheet goal certificate → (f : Fault) → said ≡ Err f → Stated f
multipliers_faults = asked_stated multipliers_say multipliers_stated

pub look_up_faults : (count : ℕ) (sheet : List Numbers) (goal : Numbers) (certificate : List ℕ) (said : Said) → said ≡ asked look_up_says count sheet goal certificate → (f : Fault) → said ≡ Err f → Stated f
look_up_faults = asked_stated look_up_says look_up_stated
