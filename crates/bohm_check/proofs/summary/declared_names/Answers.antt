use Rattle.std.proofs.Common.{◌≤◌, ◌++◌, ◌∙◌, ℕ, List, ap, length, subst}
use Rattle.bohm_check.proofs.Distinct.{all_added, one_more}
use Rattle.bohm_check.proofs.summary.declared_names.Goals as goal

pub loop-index-preserved : goal.loop-index-preserved
loop-index-preserved c = λ k.
    one_more c.args.log.now c.loop-index.index c.txn-txn.result k c.loop-index.names.items c.add_keys.new.list.items c.add_keys-in-loop-index.new.list.items
    c.shrink-most.new.names.items c.txn-txn.ensures (c.in_ok-add_keys.ensures ∙ ap (λ (ks : List (List ℕ)). c.loop-index.names.items ++ ks) c.reads.ensures)
    (c.in_ok-add_keys-2.ensures ∙ ap (λ (ks : List (List ℕ)). c.add_keys.new.list.items ++ ks) c.writes.ensures) (c.shrink-most.ensures k)
    (c.loop-index.invariant k)

pub returns : goal.returns
returns c = λ k. all_added c.args.log.now c.loop-index.index k c.loop-index.names.items
    (subst (λ (n : ℕ). n ≤ c.loop-index.index) c.len-index-end.ensures c.loop-index-test.false) (c.loop-index.invariant k)
