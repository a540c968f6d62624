use Rattle.std.proofs.Common.{◌≡◌, List, Some, ap, sym, subst, ◌∙◌, slice_get}
use Rattle.bohm_types.specs.Txn.{Txn}
use Rattle.bohm_log.specs.Columns.{txn_at}
use Rattle.bohm_log.specs.Partial.{shared_seen}
use Rattle.bohm_log.proofs.Viewing.{mapped_get}
use Rattle.bohm_log.proofs.part.LogPart.txn.Goals as goal

pub returns : goal.returns
returns c = subst (λ (ts : List Txn). slice_get ts c.args.index ≡ Some c.txn_by.result) c.self.view_is
    (mapped_get (txn_at (shared_seen c.self.inside.table)) c.self.inside.heads.now c.args.index c.head_at.result.now c.head_at.ensures
    ∙ ap (λ (t : Txn). Some t) (sym c.txn_by.ensures))
