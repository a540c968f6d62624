use Rattle.bohm_tidy.proofs.TidyLaws.{stays}
use Rattle.bohm_tidy.proofs.laws.exact_text_stays.Goals as goal

pub returns : goal.returns
returns c = stays c.one_text.ensures
