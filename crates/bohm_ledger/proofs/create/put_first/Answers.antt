use Rattle.std.proofs.lemmas.Result.{on_ok_weaker}
use Rattle.bohm_ledger.proofs.Creating.{was_founded}
use Rattle.bohm_ledger.proofs.create.put_first.Goals as goal

pub returns-clause-ok : goal.returns-clause-ok
returns-clause-ok g c = on_ok_weaker c.put_head.result (λ ok clean. was_founded _ _ _ (ok clean)) c.put_head.ensures.ok
