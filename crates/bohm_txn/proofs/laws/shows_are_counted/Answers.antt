use Rattle.bohm_txn.proofs.Bodies.{shows_counted}
use Rattle.bohm_txn.proofs.laws.shows_are_counted.Goals as goal

pub returns : goal.returns
returns c = λ t look run e. shows_counted look t run e
