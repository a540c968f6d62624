-- A ledger that is ready stays so through its calls.
use Rattle.std.proofs.Common.{◌≡◌, ◌⊎◌, inl, inr, ℕ, zero, suc, pos, ◌+◌, ◌≤◌, Bool, true, false, List}
use Rattle.std.proofs.Common.{[], ◌∷◌, ◌++◌, length, take, refl, sym, ap, ◌∙◌, arith, subst, length-append, IsTrue, Equal}
use Rattle.std.proofs.lemmas.List.{take_all, take-append-le}
use Rattle.std.specs.Ordering.{match_ordering}
use Rattle.std.specs.Cmp.{int_cmp_is}
use Rattle.bohm_types.specs.declared.edition.Edition.{Edition}
use Rattle.sqlite_value.specs.Order.{Row}
use Rattle.sqlite_value.proofs.OrderLemmas.{value_cmp-Int}
use Rattle.sqlite_trees.specs.Tree.{Trees, put_row}
use Rattle.sqlite_trees.specs.View.{View, KeepsSchema}
use Rattle.bohm_ledger.specs.Rows.{head_tree, batch_tree, balance_tree, request_tree, head_row, AreSame}
use Rattle.bohm_ledger.specs.Rules.{Look, State, Rules, after, run, origin, total, requests}
use Rattle.bohm_ledger.specs.Ledgers.{AreKept, IsBalance, IsLedger, StandsFor, HasTables, IsReady}
use Rattle.bohm_ledger.specs.Steps.{AreLess, HasBatch, HasCheckpoint, IsSteady, IsStored, IsUndone}
use Rattle.bohm_ledger.proofs.Appending.{appended, run-append, run-top}

total-take : {Defs : Type 0} (rules : Rules Defs) (m : ℕ) (xs : List (List ℕ)) → total rules (take m xs) ≤ total rules xs
total-take rules zero xs = omega arith
total-take rules (suc m) [] = omega arith
total-take rules (suc m) (x ∷ xs) = let more = total-take rules m xs in omega arith

-- behind a later checkpoint
pub kept_later : {Defs : Type 0} (rules : Rules Defs) (c d : ℕ) → c ≤ d → (xs : List (List ℕ)) (p f : ℕ) (rows : List Row)
    → AreKept rules c p f xs rows → AreKept rules d p f xs rows
kept_later rules c d low [] p f rows kept = kept
kept_later rules c d low (x ∷ xs) p f rows (inl (rest, is, kept)) = inl (rest, is, kept_later rules c d low xs (p + 1) (f + rules.size x) rest kept)
kept_later rules c d low (x ∷ xs) p f rows (inr (gone, kept)) =
    inr (
      record { undefining = gone.undefining; below = let b = gone.below in omega arith; followed = gone.followed },
      kept_later rules c d low xs
          (p + 1) (f + rules.size x) rows kept,
    )

-- a store that isn't broken is open
pub open_of : (v : View) → (v.is_open ≡ false → IsTrue v.is_broken) → v.is_broken ≡ false → IsTrue v.is_open
open_of v law sound = go v.is_open refl
  where
    go : (b : Bool) → v.is_open ≡ b → IsTrue b
    go true e = refl
    go false e = let broken = law e in cc

pub tables_kept : (old new : View) → new.shape ≡ old.shape → HasTables old → HasTables new
tables_kept old new same had = record {
  head = ap (λ (f : ℕ → _). f head_tree) same ∙ had.head;
  batch = ap (λ (f : ℕ → _). f batch_tree) same ∙ had.batch;
  balance = ap (λ (f : ℕ → _). f balance_tree) same ∙ had.balance;
  request = ap (λ (f : ℕ → _). f request_tree) same ∙ had.request;
}

pub steady_kept : (old new : View) → KeepsSchema old new → IsSteady old → IsSteady new
steady_kept old new same was = record { tables = tables_kept old new same.shape was.tables; listed = same.shape ∙ was.listed ∙ sym same.committed_shape }

module _ {Defs : Type 0} (rules : Rules Defs) (edition : Edition) (bs : List (List ℕ)) (v : View) (place checkpoint : ℕ) (state : State Defs)
    (saved : Look) (ready : IsReady rules edition bs v place checkpoint state saved) where
  -- the number of the next transaction
  next_first : 1 + state.top ≡ 1 + total rules bs
  next_first = let top = ap (λ (s : State Defs). s.top) ready.ran ∙ run-top rules (origin rules edition) bs in omega arith

  pub more_batch : (db : Trees) (first : ℕ) (text : List ℕ) (answers : List (List ℕ × List ℕ)) → first ≡ state.top + 1
      → answers ≡ rules.answers state text → HasBatch v.trees place first text answers db
      → IsLedger rules edition (bs ++ text ∷ []) ready.mark db
  more_batch db first text answers from answered has =
      appended rules edition bs ready.mark v.trees db place first text answers ready.ledger ready.placed (let n = next_first in omega arith)
      (answered ∙ ap (λ s. rules.answers s text) ready.ran) has

  -- where a crash leaves what it could have left before, or the trees with the batch
  pub outcome : (db : Trees) (first : ℕ) (text : List ℕ) (answers : List (List ℕ × List ℕ)) (Before : Type 0) → first ≡ state.top + 1
      → answers ≡ rules.answers state text → (Before → db ≡ v.committed)
      → HasBatch v.trees place first text answers db ⊎ Before
      → StandsFor rules edition bs db ⊎ StandsFor rules edition (bs ++ text ∷ []) db
  outcome db first text answers Before from answered settled (inl has) = inr (ready.mark, more_batch db first text answers from answered has)
  outcome db first text answers Before from answered settled (inr before) = inl
      (ready.mark, subst (IsLedger rules edition bs ready.mark) (sym (settled before ∙ ready.settled)) ready.ledger)

  -- a crash in a call that wrote nothing
  pub as_before : (db : Trees) → db ≡ v.committed → StandsFor rules edition bs db
  as_before db is = (ready.mark, subst (IsLedger rules edition bs ready.mark) (sym (is ∙ ready.settled)) ready.ledger)

  pub batch_ready : (new : View) (first : ℕ) (text : List ℕ) (answers : List (List ℕ × List ℕ)) (next : ℕ) (t : State Defs) (l : Look)
      → first ≡ state.top + 1 → answers ≡ rules.answers state text
      → HasBatch v.trees place first text answers new.trees → IsStored v new
      → next ≡ place + 1 → t ≡ after rules state text → l ≡ saved → IsReady rules edition (bs ++ text ∷ []) new next checkpoint t l
  batch_ready new first text answers next t l from answered has stored is then same =
      let short : take ready.mark (bs ++ text ∷ []) ≡ take ready.mark bs = take-append-le ready.mark bs (text ∷ []) ready.ledger.within in
      record {
        sound = stored.sound;
        settled = stored.settled;
        tables = tables_kept v new stored.shape ready.tables;
        mark = ready.mark;
        ledger = more_batch new.trees first text answers from answered has;
        placed = let longer = length-append bs (text ∷ []) in let p = ready.placed in omega arith;
        ran = then ∙ ap (λ s. after rules s text) ready.ran ∙ sym (run-append rules (origin rules edition) bs (text ∷ []));
        checkpointed = rw short ready.checkpointed;
        kept = rw short (same ∙ ready.kept);
      }

  -- the same state and checkpoint by other names
  pub alike : (t : State Defs) (l : Look) → t ≡ state → l ≡ saved → IsReady rules edition bs v place checkpoint t l
  alike t l same kept = record {
    sound = ready.sound;
    settled = ready.settled;
    tables = ready.tables;
    mark = ready.mark;
    ledger = ready.ledger;
    placed = ready.placed;
    ran = same ∙ ready.ran;
    checkpointed = ready.checkpointed;
    kept = kept ∙ ready.kept;
  }

  -- where everything is undone, the ledger is as it was
  pub undone : (new : View) → IsUndone v new → IsReady rules edition bs new place checkpoint state saved
  undone new back =
      let same : new.trees ≡ v.trees = back.back ∙ ready.settled in
      record {
        sound = back.sound;
        settled = back.settled ∙ sym back.back;
        tables = tables_kept v new back.shape ready.tables;
        mark = ready.mark;
        ledger = subst (IsLedger rules edition bs ready.mark) (sym same) ready.ledger;
        placed = ready.placed;
        ran = ready.ran;
        checkpointed = ready.checkpointed;
        kept = ready.kept;
      }

  -- ---- a checkpoint

  pub was_balance : IsBalance saved (v.trees balance_tree)
  was_balance = subst (λ l. IsBalance l (v.trees balance_tree)) (sym ready.kept) ready.ledger.balance

  pub at_end : (db : Trees) (top : ℕ) → top ≡ state.top → HasCheckpoint v.trees edition top state.look db → IsLedger rules edition bs (length bs) db
  at_end db top is has =
      let all : take (length bs) bs ≡ bs = take_all (length bs) bs (omega arith) in
      let whole : top ≡ total rules bs = let n = next_first in omega arith in
      record {
        within = omega arith;
        head = rw all (has.head ∙ ap (put_row (head_row edition top)) ready.ledger.head ∙ head_over (total rules (take ready.mark bs)) top
            ∙ ap (λ n. head_row edition n ∷ []) whole);
        batches = rw all (subst (AreKept rules (total rules bs) 1 1 bs) (sym has.batch)
            (kept_later rules _ _ (total-take rules ready.mark bs) bs 1 1 (v.trees batch_tree) ready.ledger.batches));
        balance = rw all (subst (λ (s : State Defs). IsBalance s.look (db balance_tree)) ready.ran has.balance);
        requests = subst (AreSame (requests rules 1 (origin rules edition) bs)) (sym has.request) ready.ledger.requests;
      }
    where
      head_over : (n m : ℕ) → put_row (head_row edition m) (head_row edition n ∷ []) ≡ head_row edition m ∷ []
      head_over n m = ap (λ o. match_ordering o (head_row edition n ∷ head_row edition m ∷ []) (head_row edition m ∷ [])
          (head_row edition m ∷ head_row edition n ∷ []))
          (value_cmp-Int (pos 1) (pos 1) ∙ sym (int_cmp_is (pos 1) (pos 1) Equal refl))

  pub checkpoint_outcome : (db : Trees) (top : ℕ) (Before : Type 0) → top ≡ state.top → (Before → db ≡ v.committed)
      → HasCheckpoint v.trees edition top state.look db ⊎ Before → StandsFor rules edition bs db
  checkpoint_outcome db top Before is settled (inl has) = (length bs, at_end db top is has)
  checkpoint_outcome db top Before is settled (inr before) = as_before db (settled before)

  pub checkpoint_ready : (new : View) (top : ℕ) (t : State Defs) (l : Look) → top ≡ state.top → HasCheckpoint v.trees edition top state.look new.trees
      → IsStored v new → t ≡ state → l ≡ state.look
      → IsReady rules edition bs new place top t l
  checkpoint_ready new top t l is has stored same looks =
      let all : take (length bs) bs ≡ bs = take_all (length bs) bs (omega arith) in
      record {
        sound = stored.sound;
        settled = stored.settled;
        tables = tables_kept v new stored.shape ready.tables;
        mark = length bs;
        ledger = at_end new.trees top is has;
        placed = ready.placed;
        ran = same ∙ ready.ran;
        checkpointed = rw all (let n = next_first in omega arith);
        kept = rw all (looks ∙ ap (λ (s : State Defs). s.look) ready.ran);
      }

  -- ---- forgetting

  pub less : (db : Trees) (bound : ℕ) → bound ≤ checkpoint → AreLess rules bound place v.trees db → IsLedger rules edition bs ready.mark db
  less db bound low h = record {
    within = ready.ledger.within;
    head = h.others head_tree (λ e. absurd (omega arith)) ∙ ready.ledger.head;
    batches = h.kept (total rules (take ready.mark bs)) bs (let c = ready.checkpointed in omega arith) ready.placed ready.ledger.batches;
    balance = subst (IsBalance (run rules (origin rules edition) (take ready.mark bs)).look)
        (sym (h.others balance_tree (λ e. absurd (omega arith)))) ready.ledger.balance;
    requests = subst (AreSame (requests rules 1 (origin rules edition) bs)) (sym (h.others request_tree (λ e. absurd (omega arith)))) ready.ledger.requests;
  }

  pub less_outcome : (db : Trees) (bound : ℕ) (Before : Type 0) → bound ≤ checkpoint → (Before → db ≡ v.committed)
      → AreLess rules bound place v.trees db ⊎ Before → StandsFor rules edition bs db
  less_outcome db bound Before low settled (inl h) = (ready.mark, less db bound low h)
  less_outcome db bound Before low settled (inr before) = as_before db (settled before)

  pub less_ready : (new : View) (bound : ℕ) → bound ≤ checkpoint → AreLess rules bound place v.trees new.trees → IsStored v new
      → IsReady rules edition bs new place checkpoint state saved
  less_ready new bound low h stored = record {
    sound = stored.sound;
    settled = stored.settled;
    tables = tables_kept v new stored.shape ready.tables;
    mark = ready.mark;
    ledger = less new.trees bound low h;
    placed = ready.placed;
    ran = ready.ran;
    checkpointed = ready.checkpointed;
    kept = ready.kept;
  }
