use Rattle.std.proofs.Common.{◌≡◌, inl, ◌+◌, refl, sym, ap, ◌∙◌, subst, take, rules, arith, ◌++◌, [], ◌∷◌}
use Rattle.std.proofs.lemmas.List.{take_all, take_more}
use Rattle.sqlite_trees.specs.View.{IsClean}
use Rattle.bohm_ledger.specs.Rows.{balance_tree}
use Rattle.bohm_ledger.specs.Ledgers.{IsBalance}
use Rattle.bohm_ledger.specs.Steps.{Rebalances, with_keys, with_key}
use Rattle.bohm_ledger.proofs.Balancing as lemma
use Rattle.bohm_ledger.proofs.Storing.{keeps_then}
use Rattle.bohm_ledger.proofs.balance.put_changed.Goals as goal

pub loop-key-preserved : goal.loop-key-preserved
loop-key-preserved g c = record {
  balance = λ clean h.
      let old = g.S.Store.view c.args.store.now in
      let before : IsClean (g.S.Store.view c.loop-key.store) = omega (arith, c.put_changed_key.ensures.quiet.clean) in
      let now = (g.M.Machine.state c.args.machine.now).look in
      let was = g.M.Machine.saved c.args.machine.now in
      let keys = c.changed-key-items.result.now in
      let at = c.loop-key.key-index in
      let so_far = c.loop-key.invariant.balance before h in
      let one = c.in_ok-put_changed_key.ensures.ok clean (with_keys now (take at keys) was) so_far.balance
      (lemma.between was now was (take at keys) (λ k. inl refl) c.key-item.result) in
      let next : take (at + 1) keys ≡ take at keys ++ c.key-item.result ∷ [] = take_more keys at c.key-item.result (omega arith)
      ∙ ap (λ y. take at keys ++ y ∷ []) (sym c.key-item.is) in
      let looks : with_key now c.key-item.result (with_keys now (take at keys) was) ≡ with_keys now (take (at + 1) keys) was =
      sym (lemma.with_keys_more now (take at keys) c.key-item.result was) ∙ ap (λ ks. with_keys now ks was) (sym next) in
      subst (Rebalances old (g.S.Store.view c.put_changed_key.new.store)) looks (lemma.rebalances_then _ _ _ _ _ so_far one);
  kept = λ clean.
      let before : IsClean (g.S.Store.view c.loop-key.store) = omega (arith, c.put_changed_key.ensures.quiet.clean) in
      keeps_then _ _ _ (c.loop-key.invariant.kept before) (c.put_changed_key.ensures.kept clean);
  schema = search rules;
  quiet = search rules;
}

pub returns-clause-ok : goal.returns-clause-ok
returns-clause-ok g c clean h =
    let now = (g.M.Machine.state c.args.machine.now).look in
    let was = g.M.Machine.saved c.args.machine.now in
    let keys = c.changed-key-items.result.now in
    let done = c.loop-key.invariant.balance clean h in
    let all : take c.loop-key.key-index keys ≡ keys = take_all c.loop-key.key-index keys (omega arith) in
    record {
      balance = lemma.with_keys_all was now keys _ c.changed-key-items.ensures
          (subst (λ ks. IsBalance (with_keys now ks was) ((g.S.Store.view c.loop-key.store).trees balance_tree)) all done.balance);
      others = done.others;
      rest = done.rest;
    }
