use Rattle.bohm_apply.proofs.Going.{went_on}
use Rattle.bohm_apply.proofs.laws.applied_twice.Goals as goal

pub returns : goal.returns
returns c = went_on
