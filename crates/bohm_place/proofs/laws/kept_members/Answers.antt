use Rattle.bohm_place.proofs.Members.{kept_contains}
use Rattle.bohm_place.proofs.laws.kept_members.Goals as goal

pub returns : goal.returns
returns c = kept_contains
