use Rattle.bohm_requests.proofs.desk.RequestDesk.open.Goals as goal

pub returns-in-Ok-open-clause-ready : goal.returns-in-Ok-open-clause-ready
returns-in-Ok-open-clause-ready g c = rw c.new-in-Ok-open.ensures c.in-Ok-open.ensures.ready

pub returns-in-Ok-open-clause-any_moment : goal.returns-in-Ok-open-clause-any_moment
returns-in-Ok-open-clause-any_moment g c = rw c.new-in-Ok-open.ensures c.in-Ok-open.ensures.any_moment
