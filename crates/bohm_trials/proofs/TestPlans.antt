-- A part of a well-formed log is well formed.
use Rattle.std.proofs.Common.{ℕ, ◌-◌, List, All, drop}
use Rattle.std.specs.List.{between}
use Rattle.std.proofs.lemmas.List.Elements.{All-drop, All-take}
use Rattle.bohm_txn.specs.Faulty.{IsWellFormedTxn}
use Rattle.bohm_types.specs.Txn.{Txn}

pub formed_between : (i j : ℕ) (txns : List Txn) → All IsWellFormedTxn txns → All IsWellFormedTxn (between i j txns)
formed_between i j txns all = All-take IsWellFormedTxn (j - i) (drop i txns) (All-drop IsWellFormedTxn i txns all)
