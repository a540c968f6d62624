use Rattle.bohm_machine.proofs.Rising.{rises_if}
use Rattle.bohm_machine.proofs.machine.Machine.store_at.Goals as goal

pub returns-clause-rises : goal.returns-clause-rises
returns-clause-rises c = rises_if (λ v. v.items) c.store_at.result c.store_at.ensures.entries
