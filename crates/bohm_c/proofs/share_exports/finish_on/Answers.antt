use Rattle.std.proofs.Common.{inl, inr}
use Rattle.bohm_c.proofs.share_exports.finish_on.Goals as goal

pub returns-in-Ok-clause-status : goal.returns-in-Ok-clause-status
returns-in-Ok-clause-status c = elim c.in-Ok.ensures.status [ inl e ↦ inl e | inr e ↦ inr (inl e) ]
