-- The text that answers a log.
use Rattle.std.specs.Prelude.{ℕ, List, take}
use Rattle.std.specs.FinMap.{entries}
use Rattle.bohm_types.specs.Document.{Document}
use Rattle.bohm_txn.specs.Serial.{replies}
use Rattle.bohm_txn.specs.Stores.{store_of, store_after, cell_in}
use Rattle.bohm_text.specs.Print.{print_answer}

-- the text of the serial run's replies, and of the store after the transactions up to a timestamp
abbrev pub answer_of : Document → ℕ → List ℕ
answer_of d ts =
    let start = store_of d.store in
    print_answer (replies (cell_in start) d.log) (entries (store_after start (take ts d.log)))
