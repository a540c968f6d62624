-- A ledger with no batch.
use Rattle.std.proofs.Common.{◌≡◌, ◌⊎◌, inl, inr, [], refl, sym, ap, ◌∙◌, arith, subst}
use Rattle.bohm_types.specs.declared.edition.Edition.{Edition}
use Rattle.sqlite_trees.specs.Tree.{Trees, put_row}
use Rattle.sqlite_trees.specs.View.{View, SetsTree}
use Rattle.bohm_ledger.specs.Rows.{head_tree, batch_tree, balance_tree, request_tree, head_row, AreSame}
use Rattle.bohm_ledger.specs.Rules.{Look, State, Rules, nothing, cells}
use Rattle.bohm_ledger.specs.Ledgers.{IsBalance, IsBlank, IsLedger, StandsFor, IsReady}
use Rattle.bohm_ledger.specs.Steps.{IsFounded, IsFresh, IsStored}
use Rattle.bohm_ledger.proofs.Balancing.{absent_apart}
use Rattle.bohm_ledger.proofs.Ready.{tables_kept}
use Rattle.bohm_ledger.proofs.Storing.{sets_from}

no_balance : IsBalance nothing []
no_balance = record { each = λ row none. absurd none; all = λ k v is. absurd (absent_apart v is) }

pub founded : {Defs : Type 0} (rules : Rules Defs) (edition : Edition) (old db : Trees) → IsBlank old → IsFounded old edition db
    → IsLedger rules edition [] 0 db
founded rules edition old db blank has = record {
  within = omega arith;
  head = has.head ∙ ap (put_row (head_row edition 0)) blank.head;
  batches = has.others batch_tree (λ e. absurd (omega arith)) ∙ blank.batch;
  balance = subst (IsBalance nothing) (sym (has.others balance_tree (λ e. absurd (omega arith)) ∙ blank.balance)) no_balance;
  requests = subst (AreSame []) (sym (has.others request_tree (λ e. absurd (omega arith)) ∙ blank.request))
      (record { there = λ row h. h; back = λ row h. h });
}

pub was_founded : (a b : View) (edition : Edition) → SetsTree a b head_tree (put_row (head_row edition 0)) → IsFounded a.trees edition b.trees
was_founded a b edition sets = let put = sets_from a b head_tree (put_row (head_row edition 0)) sets in record { head = put.this; others = put.others }

pub founded_outcome : {Defs : Type 0} (rules : Rules Defs) (edition : Edition) (old db : Trees) (Before : Type 0) → IsBlank old
    → IsFounded old edition db ⊎ Before → StandsFor rules edition [] db ⊎ Before
founded_outcome rules edition old db Before blank (inl has) = inl (0, founded rules edition old db blank has)
founded_outcome rules edition old db Before blank (inr before) = inr before

pub created : {Defs : Type 0} (rules : Rules Defs) (edition : Edition) (old a b c : View) (state : State Defs) (saved : Look) → IsBlank old.committed
    → IsFresh old a → b ≡ a → IsFounded b.trees edition c.trees → IsStored b c
    → state ≡ record { defs = rules.start edition; look = cells []; top = 0 } → saved ≡ cells [] → IsReady rules edition [] c 1 0 state saved
created rules edition old a b c state saved blank fresh same has stored starts keeps =
    let trees : b.trees ≡ old.committed = ap (λ (v : View). v.trees) same ∙ fresh.trees in
    record {
      sound = stored.sound;
      settled = stored.settled;
      tables = tables_kept a c (stored.shape ∙ ap (λ (v : View). v.shape) same) fresh.tables;
      mark = 0;
      ledger = founded rules edition old.committed c.trees blank (subst (λ (db : Trees). IsFounded db edition c.trees) trees has);
      placed = refl;
      ran = starts;
      checkpointed = refl;
      kept = keeps;
    }
