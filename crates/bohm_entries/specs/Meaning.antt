-- What an entry means: a step of the serial run.
use Rattle.std.specs.Prelude.{ℕ, ℤ, List, [], ◌∷◌, ◌++◌, Option, Some, None, if◌then◌else◌}
use Rattle.std.specs.Str.{bytes_eq}
use Rattle.bohm_types.specs.Procedure.{Procedure, instance}
use Rattle.bohm_types.specs.Txn.{Txn}

-- a name and its procedure; a call by its name, with its arguments; a transaction
pub data Entry : Type 0 where
  Define : List ℕ → Procedure → Entry
  Call : List ℕ → List (List ℕ) → List ℤ → Entry
  Transaction : Txn → Entry

-- the definitions so far, the last one first
abbrev pub Definitions : Type 0
Definitions = List (List ℕ × Procedure)

-- the last definition of a name
abbrev pub defined : Definitions → List ℕ → Option Procedure
defined [] name = None
defined (d ∷ ds) name = if bytes_eq d.0 name then Some d.1 else defined ds name

abbrev pub definitions_after : Definitions → Entry → Definitions
definitions_after ds (Define name procedure) = (name, procedure) ∷ ds
definitions_after ds (Call name keys values) = ds
definitions_after ds (Transaction txn) = ds

abbrev pub called : Option Procedure → List (List ℕ) → List ℤ → List Txn
called None keys values = []
called (Some procedure) keys values = instance procedure keys values ∷ []

-- the transaction of an entry, if it has one
abbrev pub txns_of : Definitions → Entry → List Txn
txns_of ds (Define name procedure) = []
txns_of ds (Call name keys values) = called (defined ds name) keys values
txns_of ds (Transaction txn) = txn ∷ []

-- the log of instances of these entries
abbrev pub log_of : Definitions → List Entry → List Txn
log_of ds [] = []
log_of ds (e ∷ es) = txns_of ds e ++ log_of (definitions_after ds e) es

-- the definitions after these entries
abbrev pub definitions_of : Definitions → List Entry → Definitions
definitions_of ds [] = ds
definitions_of ds (e ∷ es) = definitions_of (definitions_after ds e) es
