use Rattle.bohm_tidy.proofs.TidyLaws.{once}
use Rattle.bohm_tidy.proofs.laws.twice_is_once.Goals as goal

pub returns : goal.returns
returns c = once c.one_text.ensures
