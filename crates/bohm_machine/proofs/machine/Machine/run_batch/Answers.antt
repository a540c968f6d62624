use Rattle.bohm_machine.proofs.GoingOn.{ran_on}
use Rattle.bohm_machine.proofs.machine.Machine.run_batch.Goals as goal

pub returns-clause-runs_on : goal.returns-clause-runs_on
returns-clause-runs_on c =
    let goes = rw c.segment-segment.ensures at c.in_ok-run_admitted.ensures.goes_on in
    ran_on _ _ _ _ goes
