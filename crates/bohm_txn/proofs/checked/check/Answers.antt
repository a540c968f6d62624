use Rattle.std.proofs.Common.{sym}
use Rattle.bohm_txn.proofs.FirstLaw.{first_fault}
use Rattle.bohm_txn.proofs.checked.check.Goals as goal

pub returns-in-Some-clause-err : goal.returns-in-Some-clause-err
returns-in-Some-clause-err c = first_fault c.args.doc c.in-Some.fault (sym c.in-Some.ensures)
