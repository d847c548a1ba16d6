use Rattle.std.proofs.Common.{rules}
use Rattle.std.proofs.lemmas.Iterator.{YieldsList-from_slice}
use Rattle.records.specs.Records.{place_record_of}
use Rattle.semantics.specs.Enumerated.{guards_of}
use Rattle.obligations.specs.Questions.{bare_table}
use Rattle.obligations.proofs.CountedLists.{counted_plain}
use Rattle.obligations.proofs.lookups.Records.guard_at.Goals as goal

pub returns : goal.returns
returns c =
    counted_plain place_record_of (guards_of (bare_table c.args.self.now)) _ c.try_fold.ensures.ran (YieldsList-from_slice c.args.self.now.places.now cc) (λ k x r q e. search rules)
