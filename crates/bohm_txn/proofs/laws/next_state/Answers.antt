use Rattle.bohm_txn.proofs.States.{next}
use Rattle.bohm_txn.proofs.laws.next_state.Goals as goal

pub returns : goal.returns
returns c = next
