-- A well-formed transaction has at most 16 cells of its reads, and at most 16 of its writes.
use Rattle.std.proofs.Common.{arith}
use Rattle.bohm_log.specs.Parts.{txn_of}
use Rattle.bohm_txn.proofs.UseLaws.{usable}
use Rattle.bohm_txn.proofs.work.Work.run.Goals as goal

pub begin-requires-clause-reads : goal.begin-requires-clause-reads
begin-requires-clause-reads c = omega (arith, c.requires.reads, (usable (txn_of c.args.edition c.args.txn.now) c.requires.well).few_reads)

pub begin-requires-clause-earlier : goal.begin-requires-clause-earlier
begin-requires-clause-earlier c = omega (arith, c.requires.earlier, (usable (txn_of c.args.edition c.args.txn.now) c.requires.well).few_writes)
