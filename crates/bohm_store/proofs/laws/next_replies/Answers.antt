use Rattle.bohm_store.proofs.ProducedVersions.{next_replies}
use Rattle.bohm_store.proofs.laws.next_replies.Goals as goal

pub returns : goal.returns
returns c = next_replies
