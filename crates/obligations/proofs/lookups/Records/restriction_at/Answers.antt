use Rattle.std.proofs.Common.{rules}
use Rattle.std.proofs.lemmas.Iterator.{YieldsList-from_slice}
use Rattle.records.specs.Records.{inner_of}
use Rattle.semantics.specs.Enumerated.{restrictions_of}
use Rattle.obligations.proofs.CountedLists.{counted_plain}
use Rattle.obligations.proofs.lookups.Records.restriction_at.Goals as goal

pub returns : goal.returns
returns c =
    counted_plain inner_of restrictions_of _ c.try_fold.ensures.ran (YieldsList-from_slice c.args.self.now.inners.now cc) (λ k x r q e. search rules)
