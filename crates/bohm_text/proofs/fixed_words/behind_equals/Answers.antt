use Rattle.bohm_text.proofs.Fronts.{split_equals}
use Rattle.bohm_text.proofs.fixed_words.behind_equals.Goals as goal

pub returns : goal.returns
returns c = split_equals c.args.words.now c.behind.result c.behind.ensures.some
