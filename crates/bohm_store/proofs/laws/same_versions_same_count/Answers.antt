use Rattle.bohm_store.proofs.Counts.{total_same}
use Rattle.bohm_store.proofs.laws.same_versions_same_count.Goals as goal

pub returns : goal.returns
returns c = λ t r. total_same t.chains r.chains
