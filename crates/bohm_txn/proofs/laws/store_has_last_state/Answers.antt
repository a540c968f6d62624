use Rattle.bohm_txn.proofs.Stores.{cell_in-after}
use Rattle.bohm_txn.proofs.laws.store_has_last_state.Goals as goal

pub returns : goal.returns
returns c = cell_in-after
