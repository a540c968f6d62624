-- What performing a statement by indices requires of its transaction.
use Rattle.std.specs.Prelude.{◌≡◌, ◌≤◌, length, true}
use Rattle.bohm_types.specs.Keys.{IsAmong, rising}
use Rattle.bohm_log.specs.declared.row.StmtRow.{StmtRow}
use Rattle.bohm_log.specs.Parts.{Parts, RowIn, stmt_of}
use Rattle.bohm_types.specs.Accesses.{StmtWrites}
use Rattle.bohm_txn.specs.Declares.{AllShort}
use Rattle.bohm_types.specs.Limits.{most_keys}

-- the declared keys are few and ascend, and the check accepts the statement
pub record CanPerform (p : Parts) (r : StmtRow) : Type 0 where
  pub rising_reads : rising p.reads ≡ true
  pub rising_writes : rising p.writes ≡ true
  pub few_reads : length p.reads ≤ most_keys
  pub few_writes : length p.writes ≤ most_keys
  pub row : RowIn p r
  pub short : AllShort (stmt_of p r)
  pub declared : StmtWrites (IsAmong p.writes) (stmt_of p r)
