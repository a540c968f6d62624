use Rattle.bohm_txn.proofs.UseLaws.{usable}
use Rattle.bohm_txn.proofs.laws.txn_is_usable.Goals as goal

pub returns : goal.returns
returns c = usable
