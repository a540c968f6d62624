-- The texts of the answers to a machine's segments.
use Rattle.std.specs.Prelude.{◌≡◌, ℕ, ◌+◌, List, [], ◌∷◌, ◌++◌, length}
use Rattle.bohm_types.specs.Txn.{Txn}
use Rattle.bohm_txn.specs.declared.outcome.Reply.{Reply}
use Rattle.bohm_text.specs.Print.{print_numbered}
use Rattle.bohm_store.specs.Versions.{Timeline}
use Rattle.bohm_machine.specs.Machines.{GoesOn}

-- the transactions of a segment that were run, and their replies
pub record Run : Type 0 where
  pub txns : List Txn
  pub replies : List Reply

-- these runs lead from one state of a machine to another
abbrev pub GoesThrough : Timeline → List Run → Timeline → Type 0
GoesThrough was [] now = now ≡ was
GoesThrough was (r ∷ rs) now = (mid : Timeline) × GoesOn was mid r.txns r.replies × GoesThrough mid rs now

-- the log of which the runs are the segments
abbrev pub log_of : List Run → List Txn
log_of [] = []
log_of (r ∷ rs) = r.txns ++ log_of rs

-- the texts of their replies, the first of which has this number
abbrev pub texts_of : ℕ → List Run → List ℕ
texts_of first [] = []
texts_of first (r ∷ rs) = print_numbered first r.replies ++ texts_of (first + length r.replies) rs
