use Rattle.std.proofs.Common.{◌∙◌}
use Rattle.bohm_log.proofs.Widening.{log_kept}
use Rattle.bohm_log.proofs.Measuring.{named_log}
use Rattle.bohm_log.proofs.log.Log.handle.Goals as goal

pub invariant_of-self : goal.invariant_of-self
invariant_of-self g c = named_log _ _ _ c.handle.ensures.interns c.handle.ensures.few c.handle.ensures.entries c.self.invariant

pub returns-clause-same : goal.returns-clause-same
returns-clause-same g c = log_kept _ _ _ c.handle.ensures.interns c.self.invariant.0 ∙ c.self.view_is
