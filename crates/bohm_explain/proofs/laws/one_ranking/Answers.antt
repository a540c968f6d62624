use Rattle.bohm_explain.proofs.Ranks.{one_ranking}
use Rattle.bohm_explain.proofs.laws.one_ranking.Goals as goal

pub returns : goal.returns
returns c = one_ranking
