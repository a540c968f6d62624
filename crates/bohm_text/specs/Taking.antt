-- What reading adds to the transaction being read.
use Rattle.std.specs.Prelude.{◌≡◌, List, ◌++◌, Bool, Option, Some, Result, Ok, Err}
use Rattle.std.specs.Option.{option_map}
use Rattle.bohm_types.specs.Term.{Atom}
use Rattle.bohm_types.specs.declared.cmp.Cmp.{Cmp}
use Rattle.bohm_types.specs.Stmt.{Cond, Stmt}
use Rattle.bohm_log.specs.Drafting.{Drafted, with_stmt, with_sum, with_term}
use Rattle.bohm_log.specs.declared.fault.CloseFault.{CloseFault}
use Rattle.bohm_log.specs.declared.fault.CloseFault.TheVariants as closing
use Rattle.bohm_log.specs.declared.fault.SumFault.{SumFault}
use Rattle.bohm_log.specs.declared.fault.SumFault.TheVariants.{Empty, Log}
use Rattle.bohm_text.specs.declared.fault.ReadFault.{ReadFault}
use Rattle.bohm_text.specs.declared.fault.ReadFault.TheVariants.{Bad, NoMemory}
use Rattle.bohm_text.specs.declared.stops.Stop.{Stop}
use Rattle.bohm_text.specs.Print.{Words}
use Rattle.bohm_text.specs.Reading.{Fails, Terms, Ending, ending}

-- the fault of a line whose statement the draft refuses: no line has a sum without terms
abbrev pub read_fault_of : SumFault → ReadFault
read_fault_of Empty = Bad
read_fault_of (Log fault) = NoMemory

-- the fault of a line that closes a transaction: no line ends within a statement
abbrev pub closing_fault_of : CloseFault → ReadFault
closing_fault_of closing.Open = Bad
closing_fault_of (closing.Log fault) = NoMemory

-- more terms of the sum being read
abbrev pub with_terms : Drafted → List (Bool × Atom) → Drafted
with_terms d terms = record d { latest = d.latest ++ terms }

-- one more term of the sum being read
abbrev pub with_one : Drafted → Bool × Atom → Drafted
with_one d term = with_term d term.0 term.1

-- both sides of a condition, the right one open
abbrev pub with_cond : Drafted → Cond → Drafted
with_cond d c = with_terms (with_sum (with_terms d c.left)) c.right

-- more declared reads, and writes
abbrev pub with_reads : Drafted → Words → Drafted
with_reads d keys = record d { txn = record d.txn { reads = d.txn.reads ++ keys } }

abbrev pub with_writes : Drafted → Words → Drafted
with_writes d keys = record d { txn = record d.txn { writes = d.txn.writes ++ keys } }

-- the value that was read was added to the draft, unless an allocation failed
abbrev pub Takes : {X : Type 0} → Result (Unit {0}) ReadFault → Option X → (X → Drafted) → Drafted → Type 0
Takes (Ok done) read add now = option_map add read ≡ Some now
Takes (Err e) read add now = Fails e read

-- the draft with the terms, and what ends them
abbrev pub taken : Drafted → Option Terms → Option (Drafted × Ending)
taken before read = option_map (λ (p : Terms). (with_terms before p.0, p.1)) read

-- terms were added, followed by this stop and these words
abbrev pub TakesTerms : Result Stop ReadFault → Option Terms → Words → Drafted → Drafted → Type 0
TakesTerms (Ok stop) read rest before now = taken before read ≡ Some (now, ending stop rest)
TakesTerms (Err e) read rest before now = Fails e read

-- the draft with the condition, and its comparison
abbrev pub compared : Drafted → Option Cond → Option (Drafted × Cmp)
compared before read = option_map (λ (c : Cond). (with_cond before c, c.cmp)) read

-- a condition with this comparison was added
abbrev pub TakesCond : Result Cmp ReadFault → Option Cond → Drafted → Drafted → Type 0
TakesCond (Ok cmp) read before now = compared before read ≡ Some (now, cmp)
TakesCond (Err e) read before now = Fails e read

-- a statement was added
abbrev pub TakesStmt : Result (Unit {0}) ReadFault → Option Stmt → Drafted → Drafted → Type 0
TakesStmt r read before now = Takes r read (with_stmt before) now
