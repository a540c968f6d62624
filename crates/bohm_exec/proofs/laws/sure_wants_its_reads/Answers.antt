use Rattle.bohm_board.proofs.ForCallers.{sure_wants}
use Rattle.bohm_exec.proofs.laws.sure_wants_its_reads.Goals as goal

pub returns : goal.returns
returns c = sure_wants
