use Rattle.bohm_c.proofs.Snapshots.{opened_holds}
use Rattle.bohm_c.proofs.laws.snapshot_goes_on.Goals as goal

pub returns : goal.returns
returns c = opened_holds c.one_text.ensures
