-- A log that is checked and run chunk after chunk.
use Rattle.std.specs.Prelude.{◌≡◌, ℤ, ℕ, ◌≤◌, List, [], ◌++◌, length, None}
use Rattle.bohm_types.specs.Document.{Document}
use Rattle.bohm_types.specs.Txn.{Txn}
use Rattle.bohm_txn.specs.declared.outcome.Reply.{Reply}
use Rattle.bohm_txn.specs.Chunked.{store_fault, IsCheckedTo, IsCountOf}
use Rattle.bohm_txn.specs.Stores.{cell_in, store_of}
use Rattle.bohm_store.specs.Versions.{Timeline, past}
use Rattle.bohm_text.specs.Print.{print_numbered}
use Rattle.bohm_text.specs.Windows.{with_log}
use Rattle.bohm_apply.specs.Runs.{IsApplied}
use Rattle.bohm_read_ahead.specs.declared.checked_chunk.CheckedChunk.{CheckedChunk}
use Rattle.bohm_run.specs.declared.chunks.RunState.{RunState}
use Rattle.bohm_read_ahead.specs.Preparing.{count_with, IsPrepared}
use Rattle.bohm_types.specs.Limits.{most_txns}

-- transactions were run, and the text of their replies was appended, numbered from the first timestamp
pub record IsPartRun (was now : Timeline) (txns : List Txn) (keep first : ℕ) (text text' : List ℕ) : Type 0 where
  pub answered : List Reply
  pub applied : IsApplied was now txns keep answered
  pub wrote : text' ≡ text ++ print_numbered first answered

-- a log was run from a history that was opened, and the text is that of its replies
pub record IsRun (opened : Timeline) (keep : ℕ) (log : List Txn) (history : Timeline) (text : List ℕ) : Type 0 where
  pub answered : List Reply
  pub applied : IsApplied opened history log keep answered
  pub wrote : text ≡ print_numbered 1 answered

-- nothing has run yet, and this many timestamps are to stay readable
pub record IsStarted (keep : ℕ) (store : List (List ℕ × ℤ)) (s : RunState) : Type 0 where
  pub keeps : s.executor.keep ≡ keep
  pub top : s.history.top ≡ 0
  pub floor : s.history.floor ≡ 0
  pub past : s.in_store ≡ None → past s.history 0 ≡ cell_in (store_of store)
  pub text : s.text ≡ []
  pub count : s.count ≡ 0
  pub in_store : s.in_store ≡ store_fault store
  pub fault : s.fault ≡ s.in_store

-- if there is no fault and there aren't too many transactions, all of them were run
abbrev pub IsLevel : RunState → Type 0
IsLevel s = s.fault ≡ None → s.count ≤ most_txns → s.history.top ≡ s.count

-- the document so far was checked, and its log was run if it has no fault and not too many transactions
pub record IsRunTo (opened : Timeline) (d : Document) (s : RunState) : Type 0 where
  pub counted : IsCountOf (length d.log) s.count
  pub checked : IsCheckedTo d s.fault
  pub run : s.fault ≡ None → length d.log ≤ most_txns → IsRun opened s.executor.keep d.log s.history s.text

-- whatever was run before from an opened history was continued by these transactions
pub record RunsChunk (txns : List Txn) (was now : RunState) : Type 0 where
  pub in_store : now.in_store ≡ was.in_store
  pub keep : now.executor.keep ≡ was.executor.keep
  pub level : IsLevel was → IsLevel now
  pub runs : (opened : Timeline) (d : Document) → opened.floor ≤ opened.top → IsRunTo opened d was → IsRunTo opened (with_log d txns) now

-- the chunk is the next one to be run
pub record IsNext (s : RunState) (c : CheckedChunk) : Type 0 where
  pub level : IsLevel s
  pub behind : c.count ≡ s.count
  pub prepared : IsPrepared s.count c.log c.prepared

-- the chunk was run
pub record RunsNext (c : CheckedChunk) (was now : RunState) : Type 0 where
  pub runs : RunsChunk c.log was now
  pub count : now.count ≡ count_with was.count (length c.log)
