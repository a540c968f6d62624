-- Which procedures are accepted, and which calls a list takes.
use Rattle.std.specs.Prelude.{◌≡◌, ◌<◌, ℕ, ℤ, List, ◌++◌, map, length, take}
use Rattle.bohm_types.specs.Procedure.{Procedure}
use Rattle.bohm_types.specs.Txn.{Txn}
use Rattle.bohm_types.specs.Document.{Document}
use Rattle.bohm_txn.specs.Faulty.{IsWellFormedTxn, IsFirstFault, alone}
use Rattle.bohm_txn.specs.declared.fault.CheckFault.{CheckFault}
use Rattle.bohm_text.specs.ProcedureReading.{let_zero}
use Rattle.bohm_text.specs.ProcedureText.{IsProcedure, print_procedure}
use Rattle.bohm_types.specs.Limits.{most_txns}

-- each parameter represents itself, and each value is 0: the sets and the body are as they were written
abbrev pub own : Procedure → Txn
own p = record { edition = p.edition; reads = p.reads; writes = p.writes; body = map let_zero p.values ++ p.body }

-- its own instance is well formed. That its parameters' names are distinct is a matter of the text
pub record IsAccepted (p : Procedure) : Type 0 where
  pub own : IsWellFormedTxn (own p)

-- the transaction begins with a statement for each value
abbrev pub BeginsWithLets : Txn → List (List ℕ) → Type 0
BeginsWithLets t values = take (length values) t.body ≡ map let_zero values

-- the text is a procedure's, whose own instance has this fault
pub record IsRefusedBy (text : List ℕ) (f : CheckFault) : Type 0 where
  pub procedure : Procedure
  pub sound : IsProcedure procedure
  pub text_is : print_procedure procedure ≡ text
  pub fault : IsFirstFault (alone (own procedure)) f

-- a call of the procedure with this many arguments of each kind can be added to the calls
pub record TakesCounts (calls : Document) (p : Procedure) (key_count value_count : ℕ) : Type 0 where
  pub keys : key_count ≡ length p.keys
  pub values : value_count ≡ length p.values
  pub edition : p.edition ≡ calls.edition
  pub few : length calls.log < most_txns

-- a call of the procedure with these arguments can be added to the calls
abbrev pub Takes : Document → Procedure → List (List ℕ) → List ℤ → Type 0
Takes calls p ks vs = TakesCounts calls p (length ks) (length vs)
