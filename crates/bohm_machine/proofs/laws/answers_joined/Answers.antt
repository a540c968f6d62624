use Rattle.bohm_machine.proofs.Joining.{joined}
use Rattle.bohm_machine.proofs.laws.answers_joined.Goals as goal

pub returns : goal.returns
returns c = joined
