use Rattle.std.proofs.Common.{Some, None}
use Rattle.std.proofs.lemmas.Bool.Decides.{Decides-eqb}
use Rattle.std.proofs.lemmas.Slice.Eq.{strip_prefix_is}
use Rattle.bohm_text.proofs.Fronts.{whole_word, other_word}
use Rattle.bohm_text.proofs.fixed_words.is_word.Goals as goal

pub returns-in-Some : goal.returns-in-Some
returns-in-Some c =
    whole_word c.args.word.now c.args.text.now c.in-Some.rest.now c.is_empty.result
    (strip_prefix_is Decides-eqb c.args.word.now c.args.text.now (Some c.in-Some.rest) c.in-Some.ensures.cases) c.is_empty.ensures

pub returns-in-None : goal.returns-in-None
returns-in-None c =
    other_word c.args.word.now c.args.text.now (strip_prefix_is Decides-eqb c.args.word.now c.args.text.now None c.in-None.ensures.cases)
