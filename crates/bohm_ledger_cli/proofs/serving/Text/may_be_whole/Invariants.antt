use Rattle.std.proofs.Common.{length}
use Rattle.bohm_ledger_cli.proofs.serving.Text.may_be_whole.Given as goal

abbrev pub decreases-lines : goal.decreases-lines
decreases-lines l = length l.behind
