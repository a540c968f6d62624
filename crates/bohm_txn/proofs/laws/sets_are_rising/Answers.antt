use Rattle.bohm_txn.proofs.UseLaws.{rising_reads, rising_writes}
use Rattle.bohm_txn.proofs.laws.sets_are_rising.Goals as goal

pub returns-clause-reads : goal.returns-clause-reads
returns-clause-reads c = rising_reads

pub returns-clause-writes : goal.returns-clause-writes
returns-clause-writes c = rising_writes
