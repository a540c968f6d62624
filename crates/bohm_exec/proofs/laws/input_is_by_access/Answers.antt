use Rattle.bohm_board.proofs.ForCallers.{read_by_access, write_by_access}
use Rattle.bohm_exec.proofs.laws.input_is_by_access.Goals as goal

pub returns-clause-reads : goal.returns-clause-reads
returns-clause-reads c = read_by_access

pub returns-clause-writes : goal.returns-clause-writes
returns-clause-writes c = write_by_access
