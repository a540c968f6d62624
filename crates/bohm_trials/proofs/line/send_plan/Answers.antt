use Rattle.std.proofs.Common.{◌<◌}
use Rattle.std.proofs.lemmas.List.Elements.{All-nil}
use Rattle.bohm_trials.proofs.line.send_plan.Goals as goal

pub plan-requires-clause-earlier : goal.plan-requires-clause-earlier
plan-requires-clause-earlier g c κs within k = rw (c.in_ok-shards.ensures.empty _ k) (All-nil (λ b. b < c.args.first))
