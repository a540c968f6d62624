use Rattle.std.proofs.Common.{length}
use Rattle.bohm_ledger_cli.proofs.serving.Text.see.Given as goal

abbrev pub decreases-lines : goal.decreases-lines
decreases-lines l = length l.behind
