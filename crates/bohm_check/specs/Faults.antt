-- How a document's faults are reported.
use Rattle.std.specs.Prelude.{◌≡◌, ℕ, List, [], ◌∷◌}
use Rattle.bohm_types.specs.Document.{Document}
use Rattle.bohm_txn.specs.declared.fault.CheckKind.{CheckKind}
use Rattle.bohm_txn.specs.Faulty.{Faulty, WellFormed, IsFirstFault}
use Rattle.bohm_check.specs.declared.told.Told.{Told}
use Rattle.bohm_check.specs.Lines.{line_of}

-- a fault at a place, with its line
abbrev pub told_at : Document → ℕ → ℕ → CheckKind → Told
told_at d t s kind = record { fault = record { txn = t; stmt = s; kind = kind }; line = line_of d t s kind }

-- this is a fault, and its line is that of its place
pub record IsTold (d : Document) (told : Told) : Type 0 where
  pub faulty : Faulty d told.fault.txn told.fault.stmt told.fault.kind
  pub line : told.line ≡ line_of d told.fault.txn told.fault.stmt told.fault.kind

-- the first reported fault is the one for which the check refuses the document; if none is reported, the document is well-formed
abbrev pub IsFirst : Document → List Told → Type 0
IsFirst d [] = WellFormed d
IsFirst d (told ∷ others) = IsFirstFault d told.fault
