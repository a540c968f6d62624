use Rattle.std.proofs.Common.{sym, subst}
use Rattle.bohm_types.specs.Document.{Document}
use Rattle.bohm_txn.specs.Faulty.{WellFormed}
use Rattle.bohm_txn.proofs.checked.Checked.handle.Goals as goal

pub invariant_of-self : goal.invariant_of-self
invariant_of-self c = subst (λ (d : Document). WellFormed d) (sym c.handle.ensures.same) c.self.invariant
