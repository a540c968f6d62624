use Rattle.bohm_trials.proofs.TestPlans.{formed_between}
use Rattle.bohm_trials.proofs.line.take_refusal.Goals as goal

pub send_plan-requires-clause-formed : goal.send_plan-requires-clause-formed
send_plan-requires-clause-formed g c κs within = rw c.between-one.ensures (formed_between 0 1 c.args.txns.now c.requires.formed)
