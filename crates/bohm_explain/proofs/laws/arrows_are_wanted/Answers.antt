use Rattle.bohm_explain.proofs.Wants.{arrow_wanted, wanted_arrow}
use Rattle.bohm_explain.proofs.laws.arrows_are_wanted.Goals as goal

pub returns : goal.returns
returns c b t u right in_t in_u = (wanted_arrow b right t u in_t in_u, arrow_wanted b right t u in_t in_u)
