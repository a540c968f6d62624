use Rattle.bohm_txn.proofs.SureLaws.{sure_after}
use Rattle.bohm_txn.proofs.laws.sure_cells_are_same.Goals as goal

pub returns : goal.returns
returns c = λ t look other sure. sure_after look other t sure
