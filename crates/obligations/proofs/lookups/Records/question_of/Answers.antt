use Rattle.std.proofs.Common.{◌≡◌, Option, sym, subst}
use Rattle.records.specs.Records.{TableData, WitnessData}
use Rattle.semantics.specs.declared.obligation.Obligation.{Obligation}
use Rattle.semantics.specs.Enumerated.{question_of}
use Rattle.obligations.specs.declared.lookups.Records.{Records}
use Rattle.obligations.specs.declared.question.Question.{Question}
use Rattle.obligations.specs.Questions.{Asks}
use Rattle.obligations.proofs.RelatedQuestions.{relates}
use Rattle.obligations.proofs.lookups.Records.question_of.Goals as goal

-- the question of the obligation that this arm has
asked : (records : Records) (o p : Obligation) (r : Option Question) → o ≡ p → Asks (λ (t : TableData) (w : WitnessData). question_of t w p) records r → Asks (λ (t : TableData) (w : WitnessData). question_of t w o) records r
asked records o p r e h = subst (λ (x : Obligation). Asks (λ (t : TableData) (w : WitnessData). question_of t w x) records r) (sym e) h

pub returns-in-Consecution : goal.returns-in-Consecution
unfolding question_of
returns-in-Consecution c =
    let v = asked c.args.self.now c.args.obligation _ _ c.in-Consecution.is c.consecution.ensures in
    record { value = v; related = relates c.args.self.now c.args.obligation _ v }

pub returns-in-Restriction : goal.returns-in-Restriction
unfolding question_of
returns-in-Restriction c =
    let v = asked c.args.self.now c.args.obligation _ _ c.in-Restriction.is c.restriction.ensures in
    record { value = v; related = relates c.args.self.now c.args.obligation _ v }

pub returns-in-Guard : goal.returns-in-Guard
unfolding question_of
returns-in-Guard c =
    let v = asked c.args.self.now c.args.obligation _ _ c.in-Guard.is c.guard.ensures in
    record { value = v; related = relates c.args.self.now c.args.obligation _ v }

pub returns-in-Exit : goal.returns-in-Exit
unfolding question_of
returns-in-Exit c =
    let v = asked c.args.self.now c.args.obligation _ _ c.in-Exit.is c.exit.ensures in
    record { value = v; related = relates c.args.self.now c.args.obligation _ v }
