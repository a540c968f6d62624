use Rattle.bohm_exec.proofs.Coverage.{picked_contains}
use Rattle.bohm_exec.proofs.laws.set_aside_is_of_the_share.Goals as goal

pub returns : goal.returns
returns c = picked_contains
