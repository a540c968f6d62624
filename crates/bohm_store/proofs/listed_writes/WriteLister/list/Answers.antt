use Rattle.std.proofs.Common.{◌≡◌, ◌+◌, ◌-◌, ◌++◌, ◌∙◌, ℕ, List, Some, take, drop, ap, sym, arith, subst, length}
use Rattle.std.specs.Prelude.{min}
use Rattle.std.specs.List.{slice_get}
use Rattle.std.proofs.lemmas.List.{length-drop, take_min}
use Rattle.bohm_txn.specs.Faulty.{IsWellFormedTxn}
use Rattle.bohm_txn.specs.Meaning.{Look}
use Rattle.bohm_txn.specs.Serial.{state}
use Rattle.bohm_txn.proofs.ForCallers.{usable}
use Rattle.bohm_board.specs.declared.batch.Batch.{Batch}
use Rattle.bohm_board.specs.Batches.{base_of, first_of, txn_at, txns_of}
use Rattle.bohm_exec.specs.Answers.{batch_of_finished}
use Rattle.bohm_store.specs.Writes.{all_txn_writes, txn_writes}
use Rattle.bohm_store.proofs.Shares.{state_behind, written_next}
use Rattle.bohm_store.proofs.WrittenVersions.{all_at}
use Rattle.bohm_store.proofs.listed_writes.WriteLister.list.Goals as goal
use Rattle.bohm_place.proofs.ForCallers.{get_drop}

pub list_txn-requires-clause-keys : goal.list_txn-requires-clause-keys
list_txn-requires-clause-keys c =
    let batch = batch_of_finished c.args.finished.now in
    let txn = c.txn-txn.result in
    let t = (c.first-first.result + c.args.from) + c.loop-index.index in
    let here : txn_at batch t ≡ Some txn = subst (λ (b : Batch). txn_at b t ≡ Some txn) c.batch.ensures c.txn-txn.ensures in
    let formed : IsWellFormedTxn txn = all_at IsWellFormedTxn (txns_of batch) (t - first_of batch) txn batch.batched.formed here in
    (txn, here, sym c.writes.ensures, rw c.writes.ensures ((usable txn formed).few_writes))

pub loop-index-preserved : goal.loop-index-preserved
loop-index-preserved c =
    let b = batch_of_finished c.args.finished.now in
    let txns = txns_of b in
    let from = c.args.from in
    let i = c.loop-index.index in
    let t = (c.first-first.result + from) + i in
    let txn = c.txn-txn.result in
    let rest = drop from txns in
    let u = first_of b + from in
    let look : Look = state (base_of b) txns from in
    let there : txn_at b t ≡ Some txn = subst (λ (x : Batch). txn_at x t ≡ Some txn) c.batch.ensures c.txn-txn.ensures in
    let place : t - first_of b ≡ from + i = omega (arith, c.first-first.ensures) in
    let here : slice_get rest i ≡ Some txn = get_drop from i txns ∙ subst (λ (n : ℕ). slice_get txns n ≡ Some txn) place there in
    let number : t ≡ u + i = omega (arith, c.first-first.ensures) in
    let moment : (t - first_of b) + 1 ≡ from + (i + 1) = omega (arith, place) in
    let made : txn_writes t (state (base_of b) txns ((t - first_of b) + 1)) c.writes.result ≡ txn_writes (u + i) (state look rest (i + 1)) txn.writes =
    ap (λ (ks : List (List ℕ)). txn_writes t (state (base_of b) txns ((t - first_of b) + 1)) ks) c.writes.ensures
    ∙ ap (λ (n : ℕ). txn_writes t (state (base_of b) txns n) txn.writes) moment
    ∙ ap (λ (n : ℕ). txn_writes n (state (base_of b) txns (from + (i + 1))) txn.writes) number
    ∙ ap (λ (l : Look). txn_writes (u + i) l txn.writes) (sym (state_behind (base_of b) txns from (i + 1))) in
    record {
      below = c.in_ok-list_txn.ensures.below;
      listed = c.in_ok-list_txn.ensures.listed
          ∙ (λ j. c.loop-index.invariant.listed j ++ made j)
          ∙ sym (written_next u look rest i txn here);
    }

pub returns : goal.returns
returns c =
    let b = batch_of_finished c.args.finished.now in
    let txns = txns_of b in
    let from = c.args.from in
    let rest = drop from txns in
    let left : c.len.result - from ≡ length rest = ap (λ (n : ℕ). n - from) c.len.ensures ∙ sym (length-drop from txns) in
    let stop : c.loop-index.index ≡ c.min-index-end.result = omega (arith, c.loop-index-test.false, c.loop-index.auto.index-end) in
    let end : c.loop-index.index ≡ min c.args.count (length rest) = stop ∙ c.min-index-end.ensures ∙ ap (min c.args.count) left in
    record {
      below = c.loop-index.invariant.below;
      listed = c.loop-index.invariant.listed
          ∙ ap (λ xs. all_txn_writes (first_of b + from) (state (base_of b) txns from) xs) (ap (λ (n : ℕ). take n rest) end ∙ take_min c.args.count rest);
    }
