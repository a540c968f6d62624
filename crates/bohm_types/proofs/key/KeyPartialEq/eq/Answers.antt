use Rattle.std.proofs.Common.{refl, ◌∙◌}
use Rattle.bohm_types.proofs.Words.{same_words}
use Rattle.bohm_types.proofs.key.KeyPartialEq.eq.Goals as goal

pub returns : goal.returns
returns c = c.eq.ensures ∙ same_words c.self.inside c.other.inside c.self.invariant c.other.invariant ∙ rw (c.self.view_is, c.other.view_is) refl
