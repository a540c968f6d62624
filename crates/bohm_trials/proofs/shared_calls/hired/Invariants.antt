use Rattle.std.proofs.Common.{◌≡◌}
use Rattle.bohm_trials.proofs.shared_calls.hired.Given as goal

abbrev pub invariant-loop : goal.invariant-loop
invariant-loop g l = l.shared ≡ l.fn.shared
