-- One transaction that follows the top of a history.
use Rattle.std.specs.Prelude.{◌≡◌, ℕ, List, map, take}
use Rattle.std.specs.Map.{keys_of}
use Rattle.bohm_types.specs.declared.cell.Cell.{Cell}
use Rattle.bohm_types.specs.Txn.{Txn}
use Rattle.bohm_txn.specs.Serial.{after}
use Rattle.bohm_shapes.specs.declared.call.Call.{Call}
use Rattle.bohm_shapes.specs.Calls.{txn_of}
use Rattle.bohm_store.specs.Versions.{Timeline, past}
use Rattle.bohm_store.specs.Writes.{AreNumbersOf, IsRunnable}

-- the transaction runs on the past at the top, writes the keys with these numbers, and leaves these cells at them
pub record Leaves (h : Timeline) (numbers : List ℕ) (cells : List Cell) (t : Txn) : Type 0 where
  pub runnable : IsRunnable t
  pub writes : AreNumbersOf (keys_of h.chains) numbers t.writes
  pub left : map (after (past h h.top) t) t.writes ≡ cells

-- the transaction does what the call does, and declares to write the first keys of the call, in their order
pub record IsRunOf (c : Call) (t : Txn) : Type 0 where
  pub runnable : IsRunnable t
  pub edition : t.edition ≡ (txn_of c).edition
  pub body : t.body ≡ (txn_of c).body
  pub writes : t.writes ≡ take c.shape.now.writes c.keys.now
