-- The moments before and after a transaction of a batch, in the serial run.
use Rattle.std.specs.Prelude.{◌≡◌, ℕ, ◌+◌, ℤ, List, length, Some, slice_get, unwrap_or}
use Rattle.std.specs.Option.{option_map}
use Rattle.bohm_types.specs.declared.cell.Cell.{Cell}
use Rattle.bohm_types.specs.Txn.{Txn}
use Rattle.bohm_txn.specs.declared.outcome.Outcome.{Outcome}
use Rattle.bohm_txn.specs.Declares.{shows_in}
use Rattle.bohm_txn.specs.Meaning.{Look, body}
use Rattle.bohm_txn.specs.Serial.{state, outcome_of, shows_of}
use Rattle.bohm_txn.specs.Stores.{cell_of}
use Rattle.bohm_board.specs.declared.batch.Batch.{Batch}
use Rattle.bohm_board.specs.Batches.{txns_of, base_of, position, txn_at}

-- the cell of each key before the transaction with the timestamp t, and after it
abbrev pub state_before : Batch → ℕ → Look
state_before b t = state (base_of b) (txns_of b) (position b t)

abbrev pub state_after : Batch → ℕ → Look
state_after b t = state (base_of b) (txns_of b) (position b t + 1)

-- the number of the transaction's declared writes, and of the values that its commit shows
abbrev pub writes_in_txn : Batch → ℕ → ℕ
writes_in_txn b t = unwrap_or (option_map (λ x. length x.writes) (txn_at b t)) 0

abbrev pub shows_in_txn : Batch → ℕ → ℕ
shows_in_txn b t = unwrap_or (option_map (λ x. shows_in x.body) (txn_at b t)) 0

-- the value at this index, or absence if there is none
abbrev pub shown : List ℤ → ℕ → Cell
shown zs j = cell_of (slice_get zs j)

-- ---- the results of the serial run

abbrev pub IsSerialOutcome : Batch → ℕ → Outcome → Type 0
IsSerialOutcome b t o = (x : Txn) → txn_at b t ≡ Some x → outcome_of (body (state_before b t) x) ≡ o

-- the cell of the declared write's key after the transaction
abbrev pub IsSerialCell : Batch → ℕ → ℕ → Cell → Type 0
IsSerialCell b t j c = (x : Txn) (k : List ℕ) → txn_at b t ≡ Some x → slice_get x.writes j ≡ Some k
    → state_after b t k ≡ c

-- the value of the `show`, or absence on an abort
abbrev pub IsSerialShow : Batch → ℕ → ℕ → Cell → Type 0
IsSerialShow b t j c = (x : Txn) → txn_at b t ≡ Some x
    → shown (shows_of (body (state_before b t) x)) j ≡ c
