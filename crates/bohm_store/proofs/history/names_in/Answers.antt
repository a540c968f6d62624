use Rattle.std.proofs.Common.{◌∙◌, List, ℕ, ap}
use Rattle.bohm_log.specs.Interning.{with_name}
use Rattle.bohm_store.proofs.Opened.{next_named}
use Rattle.bohm_store.proofs.history.names_in.Goals as goal

pub loop-key-preserved : goal.loop-key-preserved
loop-key-preserved c =
    let entry = c.loop-key-item.result in
    c.in-Ok.ensures.names
    ∙ ap (λ (names : List (List ℕ)). with_name names entry.0) c.loop-key.invariant
    ∙ next_named c.args.entries.now c.loop-key.key-index entry c.requires c.loop-key-test.true c.loop-key-item.is
