use Rattle.bohm_durable.proofs.Beginning as lemma
use Rattle.bohm_durable.proofs.checkpointed.CheckpointedPast.start.Goals as goal

pub returns-clause-look : goal.returns-clause-look
returns-clause-look c = (lemma.restored c.in-Ok.machine 0 c.args.store.now c.in-Ok.ensures.top c.in-Ok.ensures.floor c.in-Ok.ensures.past).now

pub returns-clause-saved : goal.returns-clause-saved
returns-clause-saved c = (lemma.restored c.in-Ok.machine 0 c.args.store.now c.in-Ok.ensures.top c.in-Ok.ensures.floor c.in-Ok.ensures.past).saved
