use Rattle.std.proofs.Common.{◌+◌, length, refl, arith, rules}
use Rattle.std.proofs.lemmas.Iterator.{YieldsList-from_range}
use Rattle.std.proofs.lemmas.List.{length-map}
use Rattle.records.specs.Bounded.{listed}
use Rattle.records.specs.Records.{entry_of, place_record_of}
use Rattle.semantics.specs.Enumerated.{guards_at}
use Rattle.obligations.specs.Questions.{bare_table}
use Rattle.obligations.proofs.CountedLists.{counted_flow}
use Rattle.obligations.proofs.lookups.Records.guard_in.Goals as goal

pub returns : goal.returns
returns c =
    let n = c.len.ensures.value in
    let m = length-map (listed c.args.place.now.tested) entry_of in
    counted_flow (guards_at (bare_table c.args.self.now) (place_record_of c.args.place.now)) _ c.try_fold.ensures.ran
    (YieldsList-from_range 0 (c.len.result + 1) (length (place_record_of c.args.place.now).tested + 1) refl (omega (arith, n, m)))
    (λ k x r q e. search rules)
