use Rattle.bohm_store.proofs.Bounds.{grown_count}
use Rattle.bohm_store.proofs.laws.grown_count.Goals as goal

pub returns : goal.returns
returns c = λ was now txns. grown_count was now txns
