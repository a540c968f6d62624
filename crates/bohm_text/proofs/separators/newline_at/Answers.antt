use Rattle.bohm_text.proofs.Searches.{inside}
use Rattle.bohm_text.proofs.separators.newline_at.Goals as goal

pub returns-in-Some-clause-inside : goal.returns-in-Some-clause-inside
returns-in-Some-clause-inside c = inside 10 c.args.bytes.now c.in-Some.at c.in-Some.ensures
