use Rattle.bohm_store.proofs.NewestVersion.{cell_at-newest}
use Rattle.bohm_store.proofs.laws.cell_of_the_newest.Goals as goal

pub returns : goal.returns
returns c = cell_at-newest
