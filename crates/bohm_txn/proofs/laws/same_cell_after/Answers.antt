use Rattle.bohm_txn.proofs.Bodies.{same_after}
use Rattle.bohm_txn.proofs.laws.same_cell_after.Goals as goal

pub returns : goal.returns
returns c = λ t look other k. same_after look other t k
