use Rattle.std.proofs.Common.{◌≡◌, false, arith}
use Rattle.std.specs.Prelude.{nat_le}
use Rattle.std.proofs.lemmas.Bool.{lt-leb}
use Rattle.bohm_explain.specs.Table.{execution_limit, limit_words}
use Rattle.bohm_explain.proofs.table.put_limit.Goals as goal

pub returns : goal.returns
unfolding limit_words
returns c =
    let execution = c.execution_limit-execution.ensures in
    let much : nat_le (execution_limit c.args.totals) 100 ≡ false =
    lt-leb (execution_limit c.args.totals) 100 (omega (arith, execution, c.if-execution-le100.false)) in
    rw much (rw (execution, c.run_limit.ensures) at c.put-2.ensures)
