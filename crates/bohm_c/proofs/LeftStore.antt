-- The store at the end of a log.
use Rattle.std.proofs.Common.{◌≡◌, ℕ, ℤ, ◌-◌, ◌≤◌, List, length, ap, ◌∙◌, arith}
use Rattle.std.proofs.Math.Seq.{take-length}
use Rattle.std.specs.FinMap.{entries}
use Rattle.bohm_types.specs.Txn.{Txn}
use Rattle.bohm_txn.specs.declared.outcome.Reply.{Reply}
use Rattle.bohm_txn.specs.Meaning.{Look}
use Rattle.bohm_txn.specs.Serial.{state}
use Rattle.bohm_txn.specs.Stores.{Store, cell_in, store_after, store_of}
use Rattle.bohm_store.specs.Versions.{Timeline, past}
use Rattle.bohm_apply.specs.Runs.{IsApplied}
use Rattle.bohm_apply.proofs.ForCallers.{store_then}

-- the state at the top of a history that was opened with a store and ran the whole log
top_after : (s : Store) (was now : Timeline) (log : List Txn) (keep : ℕ) (a : List Reply) → was.top ≡ 0 → past was 0 ≡ cell_in s
    → now.floor ≤ now.top → IsApplied was now log keep a → past now now.top ≡ state (cell_in s) log (length log)
top_after s was now log keep a top opened ordered h =
    let from : past was was.top ≡ cell_in s = ap (past was) top ∙ opened in
    let all : now.top - was.top ≡ length log = omega (arith, h.top) in
    h.later now.top ordered (omega (arith, h.top)) (omega arith) ∙ ap (λ (l : Look). state l log (now.top - was.top)) from ∙ ap (state (cell_in s) log) all

-- the entries of that store are those of the log's last state
pub left_store : (s : Store) (was now : Timeline) (log : List Txn) (keep : ℕ) (a : List Reply) (entered : List (List ℕ × ℤ)) → was.top ≡ 0
    → past was 0 ≡ cell_in s → now.floor ≤ now.top → IsApplied was now log keep a → cell_in (store_of entered) ≡ past now now.top
    → entered ≡ entries (store_of entered) → entered ≡ entries (store_after s log)
left_store s was now log keep a entered top opened ordered h there own =
    store_then s log (length log) entered (omega arith) (there ∙ top_after s was now log keep a top opened ordered h) own
    ∙ ap (λ (ts : List Txn). entries (store_after s ts)) (take-length log)
