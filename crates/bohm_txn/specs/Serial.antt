-- Transactions one after another, in log order, over what each key holds.
use Rattle.std.specs.Prelude.{ℕ, zero, suc, ℤ, List, [], ◌∷◌, Ok, Err}
use Rattle.bohm_types.specs.declared.cell.Cell.{Cell}
use Rattle.bohm_types.specs.Txn.{Txn}
use Rattle.bohm_txn.specs.declared.outcome.Outcome.{Outcome}
use Rattle.bohm_txn.specs.declared.outcome.Outcome.TheVariants as outcomes_are
use Rattle.bohm_txn.specs.declared.outcome.Reply.{Reply}
use Rattle.bohm_txn.specs.declared.outcome.Reply.TheVariants as replies_are
use Rattle.bohm_txn.specs.Meaning.{Look, Ended, body, newest}

-- the writes that take effect: none on an abort
abbrev pub writes_of : Ended → List (List ℕ × Cell)
writes_of (Ok run) = run.writes
writes_of (Err fault) = []

abbrev pub shows_of : Ended → List ℤ
shows_of (Ok run) = run.shows
shows_of (Err fault) = []

abbrev pub outcome_of : Ended → Outcome
outcome_of (Ok run) = outcomes_are.Commit
outcome_of (Err fault) = outcomes_are.Abort fault.0 fault.1

abbrev pub reply_of : Ended → Reply
reply_of (Ok run) = replies_are.Commit run.shows
reply_of (Err fault) = replies_are.Abort fault.0 fault.1

-- the reply with this outcome, and with these shows where it is a commit
abbrev pub reply_with : Outcome → List ℤ → Reply
reply_with outcomes_are.Commit shows = replies_are.Commit shows
reply_with (outcomes_are.Abort reason stmt) shows = replies_are.Abort reason stmt

-- what each key holds after these writes
abbrev pub over : Look → List (List ℕ × Cell) → Look
over look writes = λ k. newest writes k (look k)

-- what each key holds after a transaction
abbrev pub after : Look → Txn → Look
after look t = over look (writes_of (body look t))

-- S(i): what each key holds after the first i transactions
abbrev pub state : Look → List Txn → ℕ → Look
state look ts zero = look
state look [] (suc i) = look
state look (t ∷ ts) (suc i) = state (after look t) ts i

-- R(1), R(2), ..
abbrev pub replies : Look → List Txn → List Reply
replies look [] = []
replies look (t ∷ ts) = reply_of (body look t) ∷ replies (after look t) ts
