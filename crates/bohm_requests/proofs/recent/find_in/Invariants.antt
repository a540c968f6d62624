use Rattle.std.proofs.Common.{◌≤◌, length}
use Rattle.bohm_requests.proofs.recent.find_in.Given as goal

abbrev pub invariant-entries : goal.invariant-entries
invariant-entries l = length l.rest ≤ length l.text

abbrev pub decreases-entries : goal.decreases-entries
decreases-entries l = length l.rest
