use Rattle.bohm_place.proofs.NewestCell.{newest_in_log}
use Rattle.bohm_place.proofs.laws.newest_state_in_log.Goals as goal

pub returns : goal.returns
returns c = newest_in_log
