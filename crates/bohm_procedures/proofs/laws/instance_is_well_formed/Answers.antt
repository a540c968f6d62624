use Rattle.bohm_procedures.proofs.InstanceLaw.{instance_well}
use Rattle.bohm_procedures.proofs.laws.instance_is_well_formed.Goals as goal

pub returns : goal.returns
returns c = instance_well
