use Rattle.bohm_explain.proofs.Told.{as_long}
use Rattle.bohm_explain.proofs.laws.longest_is_deepest.Goals as goal

pub returns : goal.returns
returns c d ways places = as_long d ways places
