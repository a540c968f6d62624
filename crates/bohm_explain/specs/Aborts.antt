-- Why transactions abort: a line for each abort, with the text of the statement that failed, and its line in the document's text.
use Rattle.std.specs.Prelude.{ℕ, zero, suc, ◌+◌, List, [], ◌∷◌, ◌++◌, length, codes}
use Rattle.std.specs.Fmt.{decimal}
use Rattle.std.specs.List.{slice_get}
use Rattle.std.specs.Option.{option_map_or}
use Rattle.bohm_types.specs.Stmt.{Stmt}
use Rattle.bohm_types.specs.Txn.{Txn}
use Rattle.bohm_types.specs.Document.{Document}
use Rattle.bohm_txn.specs.Serial.{replies}
use Rattle.bohm_txn.specs.Stores.{cell_in, store_of}
use Rattle.bohm_txn.specs.declared.outcome.Reason.{Reason}
use Rattle.bohm_txn.specs.declared.outcome.Reply.{Reply}
use Rattle.bohm_txn.specs.declared.outcome.Reply.TheVariants.{Commit, Abort}
use Rattle.bohm_text.specs.Print.{line_text, reason_word, stmt_words}
use Rattle.bohm_explain.specs.Pieces.{joined}

-- the line of the statement with a number, counted from 1; nothing if there is none
abbrev pub statement_text : List Stmt → ℕ → List ℕ
statement_text body zero = []
statement_text body (suc i) = option_map_or (λ s. line_text (stmt_words s)) (slice_get body i) []

-- of a transaction with this number, whose `txn` is on the line `opening`, followed by its reads, its writes and its body
abbrev pub abort_line : ℕ → ℕ → List Stmt → Reason → ℕ → List ℕ
abort_line t opening body reason stmt =
    joined (decimal t ∷ (codes " abort " ++ reason_word reason ++ codes " ") ∷ decimal stmt ∷ codes ": " ∷ statement_text body stmt
    ∷ codes " (line " ∷ decimal (opening + 2 + stmt) ∷ codes ")\n" ∷ [])

abbrev pub reply_line : ℕ → ℕ → List Stmt → Reply → List ℕ
reply_line t opening body (Commit shows) = []
reply_line t opening body (Abort reason stmt) = abort_line t opening body reason stmt

-- of transactions and their replies, the first with this number and this opening; `end` is a line too
abbrev pub aborts_from : ℕ → ℕ → List Txn → List Reply → List ℕ
aborts_from t opening [] rs = []
aborts_from t opening (x ∷ xs) [] = []
aborts_from t opening (x ∷ xs) (r ∷ rs) = reply_line t opening x.body r ++ aborts_from (t + 1) (opening + length x.body + 4) xs rs

-- the head and the store's entries are above the first transaction
abbrev pub aborts_in : Document → List Reply → List ℕ
aborts_in d rs = aborts_from 1 (length d.store + 2) d.log rs

-- with the replies of the serial run
abbrev pub aborts_of : Document → List ℕ
aborts_of d = aborts_in d (replies (cell_in (store_of d.store)) d.log)
