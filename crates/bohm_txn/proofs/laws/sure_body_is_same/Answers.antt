use Rattle.bohm_txn.proofs.SureLaws.{sure_body}
use Rattle.bohm_txn.proofs.laws.sure_body_is_same.Goals as goal

pub returns : goal.returns
returns c = λ t look other sure. sure_body look other t sure
