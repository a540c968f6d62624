use Rattle.bohm_txn.proofs.Bodies.{kept}
use Rattle.bohm_txn.proofs.UseLaws.{usable}
use Rattle.bohm_txn.proofs.laws.unwritten_stay.Goals as goal

pub returns : goal.returns
returns c = λ t look k well not. kept look t k (usable t well) not
