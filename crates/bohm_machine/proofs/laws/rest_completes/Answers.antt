use Rattle.bohm_machine.proofs.Resting.{rest_completes}
use Rattle.bohm_machine.proofs.laws.rest_completes.Goals as goal

pub returns : goal.returns
returns c = rest_completes
