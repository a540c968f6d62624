use Rattle.std.proofs.Common.{ap}
use Rattle.std.specs.Option.{option_map}
use Rattle.bohm_txn.specs.FirstFault.{fault_of}
use Rattle.bohm_txn.proofs.Checking.{log_step}
use Rattle.bohm_txn.proofs.first_fault.first_in_log.Goals as goal

pub returns-in-Some : goal.returns-in-Some
returns-in-Some c = ap (option_map fault_of) (rw (log_step c.args.log.now c.loop-i.i c.txn.result c.txn.ensures, ← c.in-Some.ensures) at c.loop-i.invariant)

pub loop-i-preserved : goal.loop-i-preserved
loop-i-preserved c = rw (log_step c.args.log.now c.loop-i.i c.txn.result c.txn.ensures, ← c.in_default.ensures) at c.loop-i.invariant
