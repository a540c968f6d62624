use Rattle.bohm_board.proofs.ForCallers.{claimed_once, finished_once}
use Rattle.bohm_exec.proofs.laws.claimed_and_finished_once.Goals as goal

pub returns-clause-claim : goal.returns-clause-claim
returns-clause-claim c = claimed_once

pub returns-clause-finish : goal.returns-clause-finish
returns-clause-finish c = finished_once
