use Rattle.std.proofs.Common.{refl}
use Rattle.std.specs.Prelude.{codes}
use Rattle.bohm_text.proofs.Ahead.{behind_word}
use Rattle.bohm_text.proofs.fixed_words.behind_set.Goals as goal

pub returns : goal.returns
returns c =
    behind_word (codes "set") c.args.line.now c.behind.result (refl, (refl, (refl, tt))) c.behind.ensures.some c.behind.ensures.none
