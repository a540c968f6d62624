use Rattle.bohm_exec.specs.Steps.{IsFree}
use Rattle.bohm_layer_trials.proofs.crowds.claim_all.Given as goal

abbrev pub invariant-loop-t : goal.invariant-loop-t
invariant-loop-t g l = IsFree l.board l.pass
