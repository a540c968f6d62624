use Rattle.std.proofs.Common.{◌∙◌, ℕ, List, ap}
use Rattle.bohm_types.specs.Keys.{is_among}
use Rattle.bohm_log.proofs.ForCallers.{among_key_set}
use Rattle.bohm_check.proofs.summary.shrink.Goals as goal

pub returns : goal.returns
returns c = λ k. ap (λ (xs : List (List ℕ)). is_among xs k) c.sort_keys.ensures ∙ among_key_set c.args.names.now.items k
