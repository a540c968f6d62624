use Rattle.bohm_c.proofs.Alike.{rest_done}
use Rattle.bohm_c.proofs.agreeing.rest_is_done.Goals as goal

pub returns : goal.returns
returns c = rest_done c.rest_completes.ensures
