use Rattle.std.proofs.Common.{List, ℕ, ap, ◌∙◌}
use Rattle.std.specs.Prelude.{ℤ}
use Rattle.bohm_txn.specs.Stores.{cell_in, store_of}
use Rattle.bohm_durable.proofs.Beginning as lemma
use Rattle.bohm_durable.proofs.checkpointed.CheckpointedPast.renew.Goals as goal

pub returns-clause-past : goal.returns-clause-past
returns-clause-past c = λ n few.
    lemma.renewed c.args.self.now.machine c.in-Ok-restore.machine n c.top-last.result c.floor.result c.top-last.ensures.top c.floor.ensures
    c.if-floor-last.false c.in-Ok-restore.ensures.floor
    (c.in-Ok-restore.ensures.past ∙ (ap (λ (es : List (List ℕ × ℤ)). cell_in (store_of es)) c.as_slice.ensures.value ∙ c.in-Ok.ensures.past)) few
