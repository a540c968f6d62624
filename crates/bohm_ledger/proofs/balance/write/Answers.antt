use Rattle.std.proofs.Common.{arith}
use Rattle.std.proofs.lemmas.Result.{on_ok_weaker}
use Rattle.sqlite_trees.specs.View.{IsClean}
use Rattle.bohm_ledger.proofs.Balancing as lemma
use Rattle.bohm_ledger.proofs.balance.write.Goals as goal

pub returns-clause-ok : goal.returns-clause-ok
returns-clause-ok g c =
    on_ok_weaker c.put_head.result (λ ok clean h.
    let before : IsClean (g.S.Store.view c.put_changed.new.store) = omega (arith, c.put_head.ensures.quiet.clean) in
    lemma.checkpoint_made _ _ _ _ _ _ (c.in_ok-put_changed.ensures.ok before h) (ok clean)) c.put_head.ensures.ok
