-- Drafts, transactions and procedures made only of values that the program's types can hold, and so have a text.
use Rattle.std.specs.Prelude.{ℕ, List}
use Rattle.std.specs.List.{AllByRecursion}
use Rattle.bohm_types.specs.Procedure.{Procedure}
use Rattle.bohm_types.specs.Sound.{IsName, IsTerm, IsSum, IsStmt, IsTxn}
use Rattle.bohm_types.specs.Txn.{Txn}
use Rattle.bohm_log.specs.Drafting.{Drafted}

abbrev pub AreNames : List (List ℕ) → Type 0
AreNames names = AllByRecursion IsName names

-- the transaction so far is sound, each finished sum has a term, and each term is sound
pub record IsSoundDraft (d : Drafted) : Type 0 where
  pub txn : IsTxn d.txn.edition d.txn
  pub done : AllByRecursion IsSum d.done
  pub latest : AllByRecursion IsTerm d.latest

-- each transaction is sound, in its own edition
abbrev pub AreTxns : List Txn → Type 0
AreTxns txns = AllByRecursion (λ t. IsTxn t.edition t) txns

-- its names are valid, and its statements sound
pub record IsSoundProcedure (p : Procedure) : Type 0 where
  pub keys : AreNames p.keys
  pub values : AreNames p.values
  pub reads : AreNames p.reads
  pub writes : AreNames p.writes
  pub body : AllByRecursion IsStmt p.body
