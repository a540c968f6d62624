use Rattle.bohm_explain.proofs.Rising.{rising}
use Rattle.bohm_explain.proofs.laws.arrows_rise.Goals as goal

pub returns : goal.returns
returns c = rising
