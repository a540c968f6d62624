use Rattle.bohm_text.proofs.Fronts.{behind_front, not_front}
use Rattle.bohm_text.proofs.fixed_words.behind.Goals as goal

pub returns-clause-some : goal.returns-clause-some
returns-clause-some c = behind_front c.args.line.now c.args.front.now c.strip_prefix.result c.strip_prefix.ensures.cases

pub returns-clause-none : goal.returns-clause-none
returns-clause-none c = not_front c.args.line.now c.args.front.now c.strip_prefix.result c.strip_prefix.ensures.cases
