use Rattle.std.proofs.Common.{length}
use Rattle.bohm_request_text.proofs.Cutting.{Passed}
use Rattle.bohm_request_text.proofs.request.split_request.Given as goal

abbrev pub invariant-lines : goal.invariant-lines
invariant-lines l = Passed l.fn.text l.rest l.is_open

abbrev pub decreases-lines : goal.decreases-lines
decreases-lines l = length l.rest
