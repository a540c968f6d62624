use Rattle.bohm_store.proofs.NewestVersion.{kept_members}
use Rattle.bohm_store.proofs.laws.kept_members.Goals as goal

pub returns : goal.returns
returns c = kept_members
