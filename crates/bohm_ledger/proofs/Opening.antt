-- A ledger that was opened is ready.
use Rattle.std.proofs.Common.{◌≡◌, inl, inr, ℕ, ℤ, Bool, true, false, List, [], ◌∷◌, map, take, refl, sym, ap, ◌∙◌, arith, subst, if◌then◌else◌}
use Rattle.std.proofs.Math.Path.{fun_ext}
use Rattle.std.specs.Str.{bytes_eq}
use Rattle.std.proofs.lemmas.Slice.Eq.{bytes_eq-Decides}
use Rattle.bohm_types.specs.declared.cell.Cell.{Cell}
use Rattle.bohm_types.specs.declared.cell.Cell.TheVariants.{Absent, Present}
use Rattle.bohm_types.specs.declared.edition.Edition.{Edition}
use Rattle.sqlite_trees.specs.Tree.{Trees}
use Rattle.sqlite_trees.specs.View.{View}
use Rattle.bohm_ledger.specs.Rows.{Has, batch_tree, balance_tree, balance_row}
use Rattle.bohm_ledger.specs.Rules.{Look, State, Rules, AreRules, cells, run, origin, total}
use Rattle.bohm_ledger.specs.Ledgers.{IsBalance, IsLedger, IsReady}
use Rattle.bohm_ledger.specs.Loading.{loaded, next_place}
use Rattle.bohm_ledger.specs.Steps.{IsFresh, OnlyReads}
use Rattle.bohm_ledger.proofs.Balancing.{row_key, row_value, absent_apart, present_same}
use Rattle.bohm_ledger.proofs.Ready.{tables_kept}
use Rattle.bohm_ledger.proofs.Replaying.{passing, placed, Meets}

-- ---- the rows of `balance` are the keys that have a value

-- a key that has a value in the list has a row
found : (es : List (List ℕ × ℤ)) (k : List ℕ) (v : ℤ) → cells es k ≡ Present v → Has (balance_row (k, v)) (map balance_row es)
found [] k v is = absurd (absent_apart v is)
found (e ∷ es) k v is = go (bytes_eq e.0 k) refl (found es k v) is
  where
    go : (b : Bool) → bytes_eq e.0 k ≡ b → (cells es k ≡ Present v → Has (balance_row (k, v)) (map balance_row es))
        → (if b then Present e.1 else cells es k) ≡ Present v
        → Has (balance_row (k, v)) (balance_row e ∷ map balance_row es)
    go true same more is = inl (sym (ap (λ x. balance_row (x, e.1)) ((bytes_eq-Decides e.0 k).0 same) ∙ ap (λ x. balance_row (k, x)) (present_same e.1 v is)))
    go false other more is = inr (more is)

-- and a key that has a row has a value in the list
listed : (es : List (List ℕ × ℤ)) (k : List ℕ) (v : ℤ) → Has (balance_row (k, v)) (map balance_row es) → (w : ℤ) × (cells es k ≡ Present w)
listed [] k v none = absurd none
listed (e ∷ es) k v there = go (bytes_eq e.0 k) refl (listed es k v) there
  where
    go : (b : Bool) → bytes_eq e.0 k ≡ b → (Has (balance_row (k, v)) (map balance_row es) → (w : ℤ) × (cells es k ≡ Present w))
        → Has (balance_row (k, v)) (balance_row e ∷ map balance_row es)
        → (w : ℤ) × ((if b then Present e.1 else cells es k) ≡ Present w)
    go true same more there = (e.1, refl)
    go false other more (inl is) = absurd (let same = (bytes_eq-Decides e.0 k).1 (sym (row_key (k, v) e is)) in cc)
    go false other more (inr later) = more later

same_cells : (look : Look) (es : List (List ℕ × ℤ)) → IsBalance look (map balance_row es) → (k : List ℕ) → cells es k ≡ look k
same_cells look es is k = go (cells es k) (look k) refl refl
  where
    go : (c d : Cell) → cells es k ≡ c → look k ≡ d → c ≡ d
    go Absent Absent one other = refl
    go (Present v) d one other =
        let form = is.each (balance_row (k, v)) (found es k v one) in
        let key = row_key (k, v) form.0 form.1 in
        let value = row_value (k, v) form.0 form.1 in
        sym (sym other ∙ ap look key ∙ form.2 ∙ ap Present (sym value))
    go Absent (Present v) one other =
        let there = listed es k v (is.all k v other) in
        absurd (absent_apart there.0 (sym one ∙ there.1))

module _ {Defs : Type 0} (rules : Rules Defs) (meets : AreRules rules) (edition : Edition) (bs : List (List ℕ)) (mark : ℕ) where
  -- views: before, after the rollback, and after each of three readings
  pub opened : (old a b c d : View) (is : IsLedger rules edition bs mark old.committed) (checkpoint place : ℕ) (e : Edition) (es : List (List ℕ × ℤ))
      (s t : State Defs) (saved : Look)
      → IsFresh old a → OnlyReads a b → OnlyReads b c → OnlyReads c d → e ≡ edition → checkpoint ≡ total rules (take mark bs)
      → b.trees balance_tree ≡ map balance_row es → saved ≡ cells es → s ≡ record { defs = rules.start e; look = cells es; top = checkpoint }
      → t ≡ loaded rules checkpoint s (c.trees batch_tree) → place ≡ next_place 1 (c.trees batch_tree)
      → IsReady rules edition bs d place checkpoint t saved
  opened old a b c d is checkpoint place e es s t saved fresh ab bc cd same at rows kept first ran next =
      let from_b : b.trees ≡ old.committed = ap (λ (v : View). v.trees) ab ∙ fresh.trees in
      let from_c : c.trees ≡ old.committed = ap (λ (v : View). v.trees) bc ∙ from_b in
      let from_d : d.trees ≡ old.committed = ap (λ (v : View). v.trees) cd ∙ from_c in
      let shape : d.shape ≡ a.shape = ap (λ (v : View). v.shape) cd ∙ ap (λ (v : View). v.shape) bc ∙ ap (λ (v : View). v.shape) ab in
      let committed : d.committed ≡ old.committed = ap (λ (v : View). v.committed) cd ∙ ap (λ (v : View). v.committed) bc
      ∙ ap (λ (v : View). v.committed) ab ∙ fresh.settled ∙ fresh.trees in
      let table : old.committed balance_tree ≡ map balance_row es = ap (λ (db : Trees). db balance_tree) (sym from_b) ∙ rows in
      let look : cells es ≡ (run rules (origin rules edition) (take mark bs)).look = fun_ext
      (same_cells (run rules (origin rules edition) (take mark bs)).look es
      (subst (IsBalance (run rules (origin rules edition) (take mark bs)).look) table is.balance)) in
      let batches : c.trees batch_tree ≡ old.committed batch_tree = ap (λ (db : Trees). db batch_tree) from_c in
      let meet : Meets rules meets (total rules (take mark bs)) mark 1 bs
      (record { defs = rules.start edition; look = cells es; top = total rules (take mark bs) }) (origin rules edition) =
      record { defs = refl; look = look; top = refl; mark = omega arith; at = omega arith } in
      let leads = passing rules meets (total rules (take mark bs)) bs mark 1 1 _ (origin rules edition) (old.committed batch_tree) is.batches meet in
      record {
        sound = ap (λ (v : View). v.is_broken) cd ∙ ap (λ (v : View). v.is_broken) bc ∙ ap (λ (v : View). v.is_broken) ab ∙ fresh.sound;
        settled = committed ∙ sym from_d;
        tables = tables_kept a d shape fresh.tables;
        mark = mark;
        ledger = subst (IsLedger rules edition bs mark) (sym from_d) is;
        placed = next ∙ ap (next_place 1) batches ∙ placed rules meets (total rules (take mark bs)) bs 1 1 1 (old.committed batch_tree) is.batches (inr refl);
        ran = ran ∙ ap (λ x. loaded rules checkpoint x (c.trees batch_tree))
            (first ∙ ap (λ x. record { defs = rules.start x; look = cells es; top = checkpoint }) same)
            ∙ ap (λ rs. loaded rules checkpoint (record { defs = rules.start edition; look = cells es; top = checkpoint }) rs) batches
            ∙ ap (λ n. loaded rules n (record { defs = rules.start edition; look = cells es; top = n }) (old.committed batch_tree)) at ∙ leads.there;
        checkpointed = at;
        kept = kept ∙ look;
      }
