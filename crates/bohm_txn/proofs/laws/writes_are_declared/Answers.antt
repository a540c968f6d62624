use Rattle.bohm_txn.proofs.Bodies.{writes_declared}
use Rattle.bohm_txn.proofs.UseLaws.{usable}
use Rattle.bohm_txn.proofs.laws.writes_are_declared.Goals as goal

pub returns : goal.returns
returns c = λ t look well. writes_declared look t (usable t well)
