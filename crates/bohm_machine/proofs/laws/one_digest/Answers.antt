use Rattle.bohm_machine.proofs.Digesting.{one_digest}
use Rattle.bohm_machine.proofs.laws.one_digest.Goals as goal

pub returns : goal.returns
returns c = one_digest
