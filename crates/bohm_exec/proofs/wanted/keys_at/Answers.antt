use Rattle.std.proofs.Common.{length, arith, ap}
use Rattle.bohm_board.proofs.ForCallers.{keys_paired}
use Rattle.bohm_exec.proofs.Viewed.{few_in}
use Rattle.bohm_exec.proofs.wanted.keys_at.Goals as goal

pub returns-clause-few : goal.returns-clause-few
returns-clause-few c =
    let b = c.args.batch.now in
    omega (arith, few_in b c.args.set c.args.t c.requires, keys_paired b c.args.set c.args.t c.txn.result c.txn.ensures, ap length c.keys.ensures)
