use Rattle.bohm_txn.proofs.UseLaws.{all_in}
use Rattle.bohm_txn.proofs.laws.log_is_well_formed.Goals as goal

pub returns : goal.returns
returns c = all_in
