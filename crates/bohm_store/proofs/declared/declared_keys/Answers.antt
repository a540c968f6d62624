use Rattle.std.proofs.Common.{◌∙◌, ◌++◌, sym}
use Rattle.bohm_store.proofs.DeclaredKeys.{declared_more}
use Rattle.bohm_store.proofs.declared.declared_keys.Goals as goal

pub loop-index-preserved : goal.loop-index-preserved
loop-index-preserved c =
    let x = c.txn-txn.result in
    c.in_ok-add_keys-2.ensures
    ∙ (λ i. (c.in_ok-add_keys.ensures ∙ (λ j. c.loop-index.invariant j ++ c.reads.ensures j)) i ++ c.writes.ensures i)
    ∙ sym (declared_more c.args.txns.now c.loop-index.index x c.txn-txn.ensures)
