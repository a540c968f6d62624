use Rattle.bohm_tidy.proofs.TidyLaws.{is_text}
use Rattle.bohm_tidy.proofs.laws.tidied_is_text.Goals as goal

pub returns : goal.returns
returns c = is_text
