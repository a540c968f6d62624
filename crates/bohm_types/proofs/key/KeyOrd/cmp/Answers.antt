use Rattle.std.proofs.Common.{refl, ◌∙◌}
use Rattle.bohm_types.proofs.Words.{same_order}
use Rattle.bohm_types.proofs.key.KeyOrd.cmp.Goals as goal

pub returns : goal.returns
returns c = c.cmp.ensures ∙ same_order c.self.inside c.other.inside c.self.invariant c.other.invariant ∙ rw (c.self.view_is, c.other.view_is) refl
