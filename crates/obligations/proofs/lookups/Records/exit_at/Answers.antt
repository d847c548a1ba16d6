use Rattle.std.proofs.Common.{rules}
use Rattle.std.proofs.lemmas.Iterator.{YieldsList-from_slice}
use Rattle.records.specs.Records.{transition_of}
use Rattle.semantics.specs.Enumerated.{exits_of}
use Rattle.obligations.specs.Questions.{witness_of}
use Rattle.obligations.proofs.CountedLists.{counted_plain}
use Rattle.obligations.proofs.lookups.Records.exit_at.Goals as goal

pub returns : goal.returns
returns c =
    counted_plain transition_of (exits_of (witness_of c.args.self.now)) _ c.try_fold.ensures.ran (YieldsList-from_slice c.args.self.now.transitions.now cc) (λ k x r q e. search rules)
