use Rattle.std.proofs.Common.{◌<◌}
use Rattle.std.proofs.lemmas.List.Elements.{All-nil}
use Rattle.bohm_layer_trials.proofs.planning.plan_batch.Goals as goal

pub plan-planned-requires-clause-earlier : goal.plan-planned-requires-clause-earlier
plan-planned-requires-clause-earlier g c κs within k = rw (c.no_chains-shards.ensures.empty _ k) (All-nil (λ b. b < 2))
