use Rattle.std.proofs.Common.{sym, ◌∙◌}
use Rattle.bohm_txn.proofs.ForCallers.{no_store_fault}
use Rattle.bohm_run.proofs.chunks.open_history.Goals as goal

pub restore_sharing-requires : goal.restore_sharing-requires
restore_sharing-requires c = no_store_fault c.args.store.now (sym c.requires ∙ c.in-None.is)

pub open_with_seed-requires : goal.open_with_seed-requires
open_with_seed-requires c = no_store_fault c.args.store.now (sym c.requires ∙ c.in-None-2.is)
