use Rattle.std.proofs.Common.{length}
use Rattle.bohm_requests.proofs.Walking.{IsWalked}
use Rattle.bohm_requests.proofs.answering.put_turns.Given as goal

abbrev pub invariant-turns : goal.invariant-turns
invariant-turns l = IsWalked l.machine.past.machine l.machine.top l.replies l.left l.turns l.rest l.fn.out.items l.out.items

abbrev pub decreases-turns : goal.decreases-turns
decreases-turns l = length l.rest
