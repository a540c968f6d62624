use Rattle.bohm_explain.proofs.CallCosts.{as_many, few_reads, few_writes, shared_alike}
use Rattle.bohm_explain.proofs.laws.costs_of_calls.Goals as goal

pub returns-clause-statements : goal.returns-clause-statements
returns-clause-statements c = as_many

pub returns-clause-reads : goal.returns-clause-reads
returns-clause-reads c = few_reads

pub returns-clause-writes : goal.returns-clause-writes
returns-clause-writes c = few_writes

pub returns-clause-sharing : goal.returns-clause-sharing
returns-clause-sharing c = shared_alike
