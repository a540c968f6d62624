use Rattle.std.proofs.Common.{map, ap, ◌∙◌, ◌++◌, rules, arith, refl}
use Rattle.sqlite_trees.specs.View.{IsClean}
use Rattle.bohm_ledger.specs.Rows.{balance_row}
use Rattle.bohm_ledger.proofs.Reading as lemma
use Rattle.bohm_ledger.proofs.load.load_balance.Goals as goal

pub rows-init : goal.rows-init
rows-init g c = record {
  live = search rules;
  reads = search rules;
  quiet = search rules;
  so_far = λ clean. rw (c.in_ok-seek.ensures.ok clean, c.clear.ensures, lemma.from_no_key, c.new-balance.ensures.items) refl;
}

pub rows-preserved : goal.rows-preserved
rows-preserved g c = record {
  live = search rules;
  reads = search rules;
  quiet = search rules;
  so_far = λ clean.
      let before : IsClean (g.S.Store.view c.rows.store) = omega (arith, c.next.ensures.quiet.clean) in
      lemma.one_taken balance_row _ _ _ c.rows.balance.items c.take_entry.new.balance.items
      (c.rows.invariant.so_far before ∙ ap (λ rs. map balance_row c.rows.balance.items ++ rs)
      (lemma.stepped _ _ 0 _ (rw c.if-not-branch.false at (c.in_ok-next.ensures.ok clean)))) c.in_ok-take_entry.ensures;
}
