use Rattle.bohm_text.proofs.Searches.{inside}
use Rattle.bohm_text.proofs.separators.space_at.Goals as goal

pub returns-in-Some-clause-inside : goal.returns-in-Some-clause-inside
returns-in-Some-clause-inside c = inside 32 c.args.bytes.now c.in-Some.at c.in-Some.ensures.first
