use Rattle.bohm_log.proofs.ForCallers.{instance_sound}
use Rattle.bohm_procedures.proofs.laws.instance_is_sound.Goals as goal

pub returns : goal.returns
returns c p ks vs h names numbers =
    instance_sound p ks vs (record { keys = h.keys; values = h.values; reads = h.reads; writes = h.writes; body = h.body }) names numbers
