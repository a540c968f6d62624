-- A transaction: its edition, the keys that it declares to read and to write, and its body.
use Rattle.std.specs.Prelude.{ℕ, List}
use Rattle.bohm_types.specs.declared.edition.Edition.{Edition}
use Rattle.bohm_types.specs.Stmt.{Stmt}

pub record Txn : Type 0 where
  pub edition : Edition
  pub reads : List (List ℕ)
  pub writes : List (List ℕ)
  pub body : List Stmt
