use Rattle.bohm_txn.proofs.SureLaws.{sure_commits}
use Rattle.bohm_txn.proofs.laws.sure_commits.Goals as goal

pub returns : goal.returns
returns c = λ t look sure. sure_commits look t sure
