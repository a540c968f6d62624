use Rattle.bohm_board.proofs.ForCallers.{reached_lawful}
use Rattle.bohm_exec.proofs.laws.reached_is_lawful.Goals as goal

pub returns : goal.returns
returns c = reached_lawful
