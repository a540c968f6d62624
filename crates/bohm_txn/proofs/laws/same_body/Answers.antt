use Rattle.bohm_txn.proofs.Bodies.{same_reads}
use Rattle.bohm_txn.proofs.UseLaws.{usable}
use Rattle.bohm_txn.proofs.laws.same_body.Goals as goal

pub returns : goal.returns
returns c = λ t look other well same. same_reads look other t (usable t well) same
