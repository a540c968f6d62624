use Rattle.std.proofs.Common.{◌++◌, ap, ◌∙◌}
use Rattle.std.specs.Prelude.{Option, List, ℕ}
use Rattle.bohm_types.specs.Parts.{target}
use Rattle.bohm_types.specs.Stmt.{Stmt}
use Rattle.bohm_tidy.specs.Settled.{the_key}
use Rattle.bohm_tidy.proofs.Lists.{gather_more}
use Rattle.bohm_tidy.proofs.body_keys.add_body_writes.Goals as goal

pub loop-index-preserved : goal.loop-index-preserved
loop-index-preserved c =
    let more = c.in_ok-add_target.ensures ∙ ap (λ (k : Option (List ℕ)). c.loop-index.keys.items ++ the_key k) c.target.ensures in
    gather_more (λ (s : Stmt). the_key (target s)) c.args.txn.now.body c.loop-index.index c.stmt.result _ _ _ c.stmt.ensures more c.loop-index.invariant
