-- Limits and order in a well-formed transaction.
use Rattle.std.specs.Prelude.{ℕ, ◌≤◌, List, count_by, length}
use Rattle.std.specs.List.{AllByRecursion}
use Rattle.bohm_types.specs.Keys.{IsAmong}
use Rattle.bohm_types.specs.Stmt.{Stmt}
use Rattle.bohm_types.specs.Txn.{Txn}
use Rattle.bohm_types.specs.Parts.{sums, is_show}
use Rattle.bohm_types.specs.Accesses.{StmtReads, StmtWrites}
use Rattle.bohm_types.specs.Limits.{most_keys, most_shows, most_stmts, most_terms}

-- each sum has at most 16 terms
abbrev pub AllShort : Stmt → Type 0
AllShort s = AllByRecursion (λ sum. length sum ≤ most_terms) (sums s)

-- how many values a commit shows
abbrev pub shows_in : List Stmt → ℕ
shows_in body = count_by is_show body

-- the limits and the order in a well-formed transaction
pub record IsUsable (t : Txn) : Type 0 where
  pub few_stmts : length t.body ≤ most_stmts
  pub few_reads : length t.reads ≤ most_keys
  pub few_writes : length t.writes ≤ most_keys
  pub few_shows : shows_in t.body ≤ most_shows
  pub short : AllByRecursion AllShort t.body
  pub reads : AllByRecursion (StmtReads (IsAmong t.reads)) t.body
  pub writes : AllByRecursion (StmtWrites (IsAmong t.writes)) t.body
