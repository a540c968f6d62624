use Rattle.bohm_txn.proofs.OneFault.{one_first_fault, none_well_formed}
use Rattle.bohm_txn.proofs.laws.one_first_fault.Goals as goal

pub returns-clause-one : goal.returns-clause-one
returns-clause-one c = one_first_fault

pub returns-clause-none : goal.returns-clause-none
returns-clause-none c = none_well_formed
