use Rattle.bohm_text.proofs.TidyLaws.{tidy_text}
use Rattle.bohm_text.proofs.laws.tidy_text.Goals as goal

pub returns : goal.returns
returns c = tidy_text
