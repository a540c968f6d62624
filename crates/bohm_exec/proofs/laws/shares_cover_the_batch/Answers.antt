use Rattle.bohm_exec.proofs.Coverage.{share_covers, share_inside}
use Rattle.bohm_exec.proofs.laws.shares_cover_the_batch.Goals as goal

pub returns : goal.returns
returns c = record { covers = share_covers; inside = share_inside }
