use Rattle.std.proofs.Common.{arith}
use Rattle.std.proofs.lemmas.Result.{on_ok_weaker}
use Rattle.sqlite_trees.specs.View.{IsClean}
use Rattle.bohm_ledger.proofs.Storing as lemma
use Rattle.bohm_ledger.proofs.keep.write.Goals as goal

pub returns-clause-ok : goal.returns-clause-ok
returns-clause-ok g c =
    on_ok_weaker c.put_requests.result (λ ok clean.
    let before : IsClean (g.S.Store.view c.put_batch.new.store) = omega (arith, c.put_requests.ensures.quiet.clean) in
    lemma.batch_made _ _ _ _ _ _ _ (c.in_ok-put_batch.ensures.ok before) (ok clean)) c.put_requests.ensures.ok
