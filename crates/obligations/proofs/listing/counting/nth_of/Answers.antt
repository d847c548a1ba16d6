use Rattle.std.proofs.Common.{inl, inr, arith}
use Rattle.std.proofs.lemmas.Bool.{cases_lt}
use Rattle.std.proofs.lemmas.List.FromFn.{length-range_with_len}
use Rattle.obligations.proofs.CountedLists.{counting_found}
use Rattle.obligations.proofs.listing.counting.nth_of.Goals as goal

pub returns-in-Some : goal.returns-in-Some
returns-in-Some c =
    let n = length-range_with_len 0 c.args.rows in
    let l = c.in-Some.ensures in
    omega (arith, n, l)

pub returns-in-None : goal.returns-in-None
returns-in-None c = elim (cases_lt c.args.index c.args.rows) [ inl l ↦ counting_found c.args.rows c.args.index l | inr h ↦ absurd (c.in-None.ensures h) ]
