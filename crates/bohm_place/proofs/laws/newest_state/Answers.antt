use Rattle.bohm_place.proofs.NewestCell.{newest_state_by}
use Rattle.bohm_place.proofs.laws.newest_state.Goals as goal

pub returns : goal.returns
returns c = newest_state_by
