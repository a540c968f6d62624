-- Which keys a transaction declares, and which ones its statements read and write.
use Rattle.std.specs.Prelude.{ℕ, List, Bool, ◌⊎◌, Option, Some, None}
use Rattle.std.specs.List.{AllByRecursion}
use Rattle.bohm_types.specs.Keys.{IsAmong}
use Rattle.bohm_types.specs.Stmt.{Stmt}
use Rattle.bohm_types.specs.Term.{Atom, Lit, Read, Local}
use Rattle.bohm_types.specs.Txn.{Txn}
use Rattle.bohm_types.specs.Parts.{sums, tested, target}

-- the transaction declares to read or to write the key
abbrev pub Declares : Txn → List ℕ → Type 0
Declares t k = IsAmong t.reads k ⊎ IsAmong t.writes k

abbrev pub OnSomeKey : (List ℕ → Type 0) → Option (List ℕ) → Type 0
OnSomeKey P None = Unit {0}
OnSomeKey P (Some k) = P k

-- P holds for each key that is read
abbrev pub AtomReads : (List ℕ → Type 0) → Atom → Type 0
AtomReads P (Lit n) = Unit {0}
AtomReads P (Read k) = P k
AtomReads P (Local x) = Unit {0}

abbrev pub SumReads : (List ℕ → Type 0) → List (Bool × Atom) → Type 0
SumReads P sum = AllByRecursion (λ t. AtomReads P t.1) sum

abbrev pub StmtReads : (List ℕ → Type 0) → Stmt → Type 0
StmtReads P s = AllByRecursion (SumReads P) (sums s) × OnSomeKey P (tested s)

-- P holds for the key that is written
abbrev pub StmtWrites : (List ℕ → Type 0) → Stmt → Type 0
StmtWrites P s = OnSomeKey P (target s)
