use Rattle.bohm_machine.proofs.Digesting.{same_digest}
use Rattle.bohm_machine.proofs.laws.same_digest.Goals as goal

pub returns : goal.returns
returns c = same_digest c.one_text.ensures
