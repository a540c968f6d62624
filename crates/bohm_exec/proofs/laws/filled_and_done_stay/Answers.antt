use Rattle.bohm_board.proofs.ForCallers.{reached_stays}
use Rattle.bohm_exec.proofs.laws.filled_and_done_stay.Goals as goal

pub returns : goal.returns
returns c = reached_stays
