use Rattle.bohm_requests.proofs.desk.RequestDesk.create.Goals as goal

pub returns-in-Ok-create-clause-ready : goal.returns-in-Ok-create-clause-ready
returns-in-Ok-create-clause-ready g c = rw c.new-in-Ok-create.ensures c.in-Ok-create.ensures.ready
