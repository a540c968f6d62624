use Rattle.std.proofs.Common.{refl, ◌∙◌}
use Rattle.std.specs.Prelude.{codes}
use Rattle.bohm_text.proofs.Ahead.{is_begun}
use Rattle.bohm_text.proofs.fixed_words.begins_no.Goals as goal

pub returns : goal.returns
returns c = c.is_some.ensures ∙ is_begun (codes "no") c.args.words.now c.behind.result (refl, (refl, tt)) c.behind.ensures.some c.behind.ensures.none
