use Rattle.bohm_txn.proofs.Stores.{same_store}
use Rattle.bohm_txn.proofs.laws.same_cells_same_store.Goals as goal

pub returns : goal.returns
returns c = same_store
