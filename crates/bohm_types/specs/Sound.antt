-- Sound values: those that the program's types can hold. A contract's variables range over more: any list of bytes for a name, any list of terms for a sum.
use Rattle.std.specs.Prelude.{◌≡◌, ℕ, ℤ, pos, negsuc, ◌^◌, ◌<◌, List, Bool, true, length, Option, Some, None}
use Rattle.std.specs.List.{AllByRecursion}
use Rattle.bohm_types.specs.Name.{is_name}
use Rattle.bohm_types.specs.Shape.{is_term}
use Rattle.bohm_types.specs.Document.{Document}
use Rattle.bohm_types.specs.Term.{Atom, Lit, Read, Local}
use Rattle.bohm_types.specs.Stmt.{Cond, Stmt, Bind, Need, Has, Lacks, Put, Remove, Show, Fail}
use Rattle.bohm_types.specs.declared.edition.Edition.{Edition}
use Rattle.bohm_types.specs.Txn.{Txn}

abbrev pub IsName : List ℕ → Type 0
IsName w = is_name w ≡ true

abbrev pub IsAtom : Atom → Type 0
IsAtom (Lit n) = n < 2 ^ 63
IsAtom (Read k) = IsName k
IsAtom (Local x) = IsName x

abbrev pub IsTerm : Bool × Atom → Type 0
IsTerm t = (is_term t.0 t.1 ≡ true) × IsAtom t.1

abbrev pub IsSum : List (Bool × Atom) → Type 0
IsSum ts = (0 < length ts) × AllByRecursion IsTerm ts

abbrev pub IsCond : Cond → Type 0
IsCond c = IsSum c.left × IsSum c.right

abbrev pub IsGuard : Option Cond → Type 0
IsGuard None = Unit {0}
IsGuard (Some c) = IsCond c

abbrev pub IsStmt : Stmt → Type 0
IsStmt (Bind x sum) = IsName x × IsSum sum
IsStmt (Need c) = IsCond c
IsStmt (Has k) = IsName k
IsStmt (Lacks k) = IsName k
IsStmt (Put k sum guard) = IsName k × IsSum sum × IsGuard guard
IsStmt (Remove k) = IsName k
IsStmt (Show sum) = IsSum sum
IsStmt Fail = Unit {0}

abbrev pub IsNumber : ℤ → Type 0
IsNumber (pos n) = n < 2 ^ 63
IsNumber (negsuc n) = n < 2 ^ 63

abbrev pub IsEntry : List ℕ × ℤ → Type 0
IsEntry entry = IsName entry.0 × IsNumber entry.1

pub record IsTxn (edition : Edition) (t : Txn) : Type 0 where
  pub same : t.edition ≡ edition
  pub reads : AllByRecursion IsName t.reads
  pub writes : AllByRecursion IsName t.writes
  pub body : AllByRecursion IsStmt t.body

pub record IsDocument (d : Document) : Type 0 where
  pub store : AllByRecursion IsEntry d.store
  pub log : AllByRecursion (IsTxn d.edition) d.log
