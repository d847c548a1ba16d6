use Rattle.std.proofs.Common.{◌∙◌}
use Rattle.semantics.specs.Enumerated.{obligations_of}
use Rattle.records.specs.Records.{HeadingData}
use Rattle.obligations.specs.Questions.{table_of, witness_of}
use Rattle.obligations.proofs.CountedLists.{broken_off}
use Rattle.obligations.proofs.RelatedQuestions.{obliges}
use Rattle.obligations.proofs.lookups.Records.obligation_at.Goals as goal

pub returns : goal.returns
unfolding obligations_of
returns c =
    let v = λ (heading : HeadingData). c.break_value.ensures.value ∙ broken_off c.args.index (obligations_of (table_of heading c.args.self.now) (witness_of c.args.self.now)) c.counted_to.result c.counted_to.ensures in
    record { value = v; related = obliges c.args.self.now c.args.index _ v }
