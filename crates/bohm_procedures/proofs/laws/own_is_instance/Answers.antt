use Rattle.bohm_procedures.proofs.OwnLaw.{own_is_instance}
use Rattle.bohm_procedures.proofs.laws.own_is_instance.Goals as goal

pub returns : goal.returns
returns c = own_is_instance
