-- The step of one transaction on a finite store.
use Rattle.std.proofs.Common.{◌≡◌, ℕ, ◌+◌, Bool, true, false, List, [], ◌∷◌, ◌++◌, map, drop, Some, refl, sym, ap, ◌∙◌, inl, inr, append_assoc}
use Rattle.std.specs.Prelude.{◌⊎◌, ◌||◌, cond}
use Rattle.std.specs.List.{zip, list_any, slice_get}
use Rattle.std.specs.Str.{bytes_eq}
use Rattle.bohm_types.specs.declared.cell.Cell.{Cell}
use Rattle.bohm_types.specs.Txn.{Txn}
use Rattle.bohm_types.specs.Keys.{IsAmong, is_among}
use Rattle.bohm_txn.specs.declared.outcome.Reply.{Reply}
use Rattle.bohm_txn.specs.Faulty.{IsWellFormedTxn}
use Rattle.bohm_txn.specs.Meaning.{Look, body, newest}
use Rattle.bohm_txn.specs.Serial.{writes_of, reply_of, after, replies}
use Rattle.bohm_txn.specs.Stores.{Store, cell_in, put_all, store_after}
use Rattle.bohm_txn.proofs.ForCallers.{kept, same_key, drop_at, cell_in-put_all, same_store, usable}

-- the last cell of a key among pairs of keys and cells of one state
newest_taken : (look : Look) (keys : List (List ℕ)) (k : List ℕ) (before : Cell) → (before ≡ look k) ⊎ IsAmong keys k
    → newest (zip keys (map look keys)) k before ≡ look k
newest_taken look [] k before (inl e) = e
newest_taken look [] k before (inr among) = absurd cc
newest_taken look (x ∷ xs) k before h =
    let P : Bool → Type 0 = λ (t : Bool). bytes_eq x k ≡ t → (before ≡ look k) ⊎ ((t || list_any (λ y. bytes_eq y k) xs) ≡ true)
    → newest (zip xs (map look xs)) k (cond t (look x) before) ≡ look k in
    elim (bytes_eq x k) as P [
      | true ↦ λ e g. newest_taken look xs k (look x) (inl (ap look (same_key x k e)))
      | false ↦ λ e g. newest_taken look xs k before g
    ] refl h

either : (keys : List (List ℕ)) (k : List ℕ) (P : Type 0) → (¬ IsAmong keys k → P) → P ⊎ IsAmong keys k
either keys k P none = elim (is_among keys k) as (λ b. is_among keys k ≡ b → P ⊎ IsAmong keys k) [
  | true ↦ λ e. inr e
  | false ↦ λ e. inl (none (λ h. cc))
] refl

-- putting the cells of all declared writes has the effect of putting those of the body's writes
pub put_all-cells : (s : Store) (t : Txn) → IsWellFormedTxn t
    → put_all s (zip t.writes (map (after (cell_in s) t) t.writes)) ≡ put_all s (writes_of (body (cell_in s) t))
put_all-cells s t well = same_store _ _ (λ k.
    cell_in-put_all s (zip t.writes (map (after (cell_in s) t) t.writes)) k
    ∙ newest_taken (after (cell_in s) t) t.writes k (cell_in s k)
    (either t.writes k (cell_in s k ≡ after (cell_in s) t k) (λ none. sym (kept (cell_in s) t k (usable t well) none)))
    ∙ sym (cell_in-put_all s (writes_of (body (cell_in s) t)) k))

-- the store after a transaction has the cells of the next state
pub cell_in-step : (s : Store) (t : Txn) → cell_in (put_all s (writes_of (body (cell_in s) t))) ≡ after (cell_in s) t
cell_in-step s t = λ i k. cell_in-put_all s (writes_of (body (cell_in s) t)) k i

-- the replies after one more transaction of the log
pub replies_more : (s s' : Store) (ts : List Txn) (i : ℕ) (t : Txn) (r : Reply) (done whole : List Reply) → slice_get ts i ≡ Some t
    → r ≡ reply_of (body (cell_in s) t) → s' ≡ put_all s (writes_of (body (cell_in s) t))
    → done ++ replies (cell_in s) (drop i ts) ≡ whole → (done ++ r ∷ []) ++ replies (cell_in s') (drop (i + 1) ts) ≡ whole
replies_more s s' ts i t r done whole at is next e =
    let look : cell_in s' ≡ after (cell_in s) t = ap cell_in next ∙ cell_in-step s t in
    let here : replies (cell_in s) (drop i ts) ≡ r ∷ replies (cell_in s') (drop (i + 1) ts) =
    ap (replies (cell_in s)) (drop_at ts i t at) ∙ (λ j. sym is j ∷ replies (sym look j) (drop (i + 1) ts)) in
    rw append_assoc (ap (λ (rs : List Reply). done ++ rs) (sym here) ∙ e)

pub store_after_more : (s s' : Store) (ts : List Txn) (i : ℕ) (t : Txn) (whole : Store) → slice_get ts i ≡ Some t
    → s' ≡ put_all s (writes_of (body (cell_in s) t)) → store_after s (drop i ts) ≡ whole → store_after s' (drop (i + 1) ts) ≡ whole
store_after_more s s' ts i t whole at next e = (λ j. store_after (next j) (drop (i + 1) ts)) ∙ (sym (ap (store_after s) (drop_at ts i t at)) ∙ e)
