use Rattle.std.proofs.Common.{subst}
use Rattle.bohm_ledger.specs.Ledgers.{StandsFor}
use Rattle.bohm_ledger.proofs.crash.restart.Goals as goal

pub returns-in-Ok-clause-ready : goal.returns-in-Ok-clause-ready
returns-in-Ok-clause-ready g c clean edition bs stands = c.in-Ok.ensures.ready clean edition bs
    (subst (StandsFor g.M.Machine.rules edition bs) (c.in-Ok.ensures.same clean) stands)
