-- A question or an obligation that is the computed one is that of the relation.
use Rattle.std.proofs.Common.{◌≡◌, ℕ, IfSome, Some, None, Option, sym, ◌∙◌, arith, MatchOption}
use Rattle.std.specs.Option.{option_map}
use Rattle.records.specs.Bounded.{listed}
use Rattle.records.specs.Lists.{at}
use Rattle.records.specs.Records.{HeadingData, TableData, WitnessData}
use Rattle.semantics.specs.declared.obligation.Obligation.{Obligation}
use Rattle.semantics.specs.Enumerated.{Posed, posed, question_of, obligations_of}
use Rattle.semantics.specs.Laws.{Fitting}
use Rattle.semantics.specs.Obligations.{ObligationOf, Poses}
use Rattle.semantics.proofs.Listing.{obligations_agree_lem}
use Rattle.semantics.proofs.Members.{at_member}
use Rattle.obligations.specs.declared.lookups.Records.{Records}
use Rattle.obligations.specs.declared.question.Question.{Question}
use Rattle.obligations.specs.Questions.{Asks, Relates, Obliges, table_of, witness_of, posed_by}

-- in a table and a witness
relates_in : (table : TableData) (witness : WitnessData) (o : Obligation) (r : Option Question) → Fitting table witness → option_map posed_by r ≡ question_of table witness o → MatchOption r (ObligationOf table witness o → ⊥) (λ q. Poses table witness o (listed q.facts) q.goal)
relates_in table witness o (Some q) fit e = (obligations_agree_lem table witness fit).asks o (listed q.facts) q.goal (sym e)
relates_in table witness o None fit e = λ x.
    let h = (obligations_agree_lem table witness fit).asked o x.0 x.1 x.2 in
    let s : ◌≡◌ {A = Option Posed} None (Some (posed x.0 x.1)) = e ∙ h in
    let z : ◌≡◌ {A = ℕ} 0 1 = cc in omega arith

pub relates : (records : Records) (o : Obligation) (r : Option Question) → Asks (λ (t : TableData) (w : WitnessData). question_of t w o) records r → Relates records o r
relates records o r e heading fit = relates_in _ _ o r fit (e heading)

-- the obligation with an index
obliges_in : (table : TableData) (witness : WitnessData) (k : ℕ) (r : Option Obligation) → Fitting table witness → r ≡ at k (obligations_of table witness) → IfSome r (ObligationOf table witness)
obliges_in table witness k None fit e = tt
obliges_in table witness k (Some o) fit e = (obligations_agree_lem table witness fit).lists o (at_member (obligations_of table witness) k o (sym e))

pub obliges : (records : Records) (k : ℕ) (r : Option Obligation) →
    ((heading : HeadingData) → r ≡ at k (obligations_of (table_of heading records) (witness_of records))) → Obliges records r
obliges records k r e heading fit = obliges_in _ _ k r fit (e heading)
