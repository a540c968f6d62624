-- The replies of batches and their transactions.
use Rattle.std.specs.Prelude.{◌≡◌, ℕ, ℤ, ◌+◌, List, [], ◌∷◌, length, take, Some}
use Rattle.bohm_types.specs.Txn.{Txn}
use Rattle.bohm_txn.specs.declared.outcome.Reply.{Reply}
use Rattle.bohm_txn.specs.Meaning.{body}
use Rattle.bohm_txn.specs.Serial.{replies, reply_of, shows_of}
use Rattle.bohm_board.specs.declared.batch.Batch.{Batch}
use Rattle.bohm_board.specs.Batches.{base_of, txn_at, txns_of}
use Rattle.bohm_exec.specs.declared.finished.Finished.{Finished}
use Rattle.bohm_exec.specs.Answers.{batch_of_finished}
use Rattle.bohm_exec.specs.Moments.{state_before}
use Rattle.bohm_store.specs.declared.listed_writes.ListedWrites.{ListedWrites}
use Rattle.bohm_store.specs.Versions.{Timeline, past}
use Rattle.bohm_store.specs.Writes.{AreNextShares}
use Rattle.bohm_place.specs.Cuttings.{Cutting}
use Rattle.bohm_apply.specs.Runs.{IsApplied, IsEndOfBatch}

-- the replies of a finished batch over its base
abbrev pub replies_of : Finished → List Reply
replies_of f = replies (base_of (batch_of_finished f)) (txns_of (batch_of_finished f))

-- a relation of what replies are appended to, the timestamp of the first of these replies, the replies, and the result
abbrev pub Appended : Type 0 → Type 1
Appended A = ℕ → A → List Reply → A → Type 0

-- the batch of these transactions after the top of a history was evaluated: its replies were appended, and its writes are listed
pub record IsEvaluated {A : Type 0} (appended : Appended A) (t : Timeline) (txns : List Txn) (was now : A) (shares : List ListedWrites) : Type 0 where
  pub batch : Batch
  pub same : txns_of batch ≡ txns
  pub listed : AreNextShares t batch (length txns) shares
  pub told : appended (t.top + 1) was (replies (past t t.top) txns) now

-- whole batches of a cut log were run, from the first on, and just their replies were appended
pub record StopsBetween {A : Type 0} (appended : Appended A) (before after : Timeline) (c : Cutting) (keep : ℕ) (was now : A) : Type 0 where
  pub run : ℕ
  pub batches : IsEndOfBatch c.sizes run
  pub applied : IsApplied before after (take run c.log) keep (replies (past before before.top) (take run c.log))
  pub told : appended (before.top + 1) was (replies (past before before.top) (take run c.log)) now

-- ---- of the transaction with the timestamp t, in the serial run

abbrev pub AreSerialShows : Batch → ℕ → List ℤ → Type 0
AreSerialShows b t zs = (x : Txn) → txn_at b t ≡ Some x → shows_of (body (state_before b t) x) ≡ zs

-- its reply was appended
abbrev pub IsReplied : {A : Type 0} → Appended A → Batch → ℕ → A → A → Type 0
IsReplied appended b t was now = (x : Txn) → txn_at b t ≡ Some x → appended t was (reply_of (body (state_before b t) x) ∷ []) now
