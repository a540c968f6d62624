use Rattle.std.proofs.Common.{length}
use Rattle.bohm_requests.proofs.log.LogPrinter.put_batch.Given as goal

abbrev pub decreases-entries : goal.decreases-entries
decreases-entries g l = length l.rest
