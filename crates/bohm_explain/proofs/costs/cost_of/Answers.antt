use Rattle.bohm_place.proofs.ForCallers.{usable_at}
use Rattle.bohm_explain.proofs.costs.cost_of.Goals as goal

pub weight-requires : goal.weight-requires
weight-requires c = usable_at _ c.requires.formed _ _ c.txn-txn.ensures

pub declared_by-requires : goal.declared_by-requires
declared_by-requires c = usable_at _ c.requires.formed _ _ c.txn-txn.ensures
