-- The guarantee: whatever calls a case was worked by, an accepted verdict promises endless and closed runs, and a verdict is
-- accepted exactly where the calls are ready for it.
use Rattle.cases.specs.Promises.{Guarantee}
use Rattle.cases.proofs.EndlessRuns.{always_fits, endless, closed}
use Rattle.cases.proofs.ReadyExactly.{only_ready, ready_accepted}

pub guaranteed : Guarantee
guaranteed making calls =
    record {
      endless = endless making calls;
      closed = closed making calls;
      only_ready = only_ready making (always_fits making) calls;
      ready_accepted = ready_accepted making (always_fits making) calls;
    }
