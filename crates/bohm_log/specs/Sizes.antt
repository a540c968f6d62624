-- How much drafts and logs hold, and what they keep of it in memory.
use Rattle.std.specs.Prelude.{◌≡◌, ℕ, ◌+◌, ◌*◌, ◌^◌, ◌≤◌, List, length, Option, Some, None}
use Rattle.std.specs.List.{sum_by}
use Rattle.bohm_types.specs.Stmt.{Cond, Stmt, Bind, Need, Has, Lacks, Put, Remove, Show, Fail}
use Rattle.bohm_types.specs.Procedure.{Procedure}
use Rattle.bohm_types.specs.Txn.{Txn}
use Rattle.bohm_log.specs.Columns.{Shared, entries_in}
use Rattle.bohm_log.specs.Parts.{Parts}
use Rattle.bohm_log.specs.Drafting.{Drafted}

abbrev pub cond_terms : Cond → ℕ
cond_terms c = length c.left + length c.right

abbrev pub guard_terms : Option Cond → ℕ
guard_terms None = 0
guard_terms (Some c) = cond_terms c

-- the terms of a statement
abbrev pub stmt_terms : Stmt → ℕ
stmt_terms (Bind x sum) = length sum
stmt_terms (Need c) = cond_terms c
stmt_terms (Has k) = 0
stmt_terms (Lacks k) = 0
stmt_terms (Put k sum guard) = length sum + guard_terms guard
stmt_terms (Remove k) = 0
stmt_terms (Show sum) = length sum
stmt_terms Fail = 0

-- the terms of the statement being read
abbrev pub open_terms : Drafted → ℕ
open_terms d = sum_by length d.done + length d.latest

-- the terms that were read
abbrev pub terms_in : Drafted → ℕ
terms_in d = sum_by stmt_terms d.txn.body + open_terms d

-- the terms and the statements that were read
abbrev pub size_of : Drafted → ℕ
size_of d = terms_in d + length d.txn.body

-- a transaction, its declared keys, its terms and its statements together
abbrev pub txn_size : Txn → ℕ
txn_size t = 1 + length t.reads + length t.writes + sum_by stmt_terms t.body + length t.body

-- transactions, and what they have, together
abbrev pub log_size : List Txn → ℕ
log_size ts = sum_by txn_size ts

-- ---- in memory

-- each other name is that of a term or of a statement, and each large literal is a term
pub record IsCompact (p : Parts) : Type 0 where
  pub others : length p.others ≤ length p.terms + length p.rows
  pub large : length p.large ≤ length p.terms

-- at most one other name and one large literal were added
pub record GrowsByOne (p q : Parts) : Type 0 where
  pub others : length q.others ≤ length p.others + 1
  pub large : length q.large ≤ length p.large + 1

-- the lists hold the terms and the statements that were read, and nothing besides them
pub record IsCounted (p : Parts) (d : Drafted) : Type 0 where
  pub terms : length p.terms ≡ terms_in d
  pub rows : length p.rows ≡ length d.txn.body
  pub compact : IsCompact p

-- the names and literals of a procedure's own instance are few compared with its terms, and few of its terms are left out of a call
pub record IsFilled (p : Parts) (procedure : Procedure) : Type 0 where
  pub terms : length p.terms ≤ sum_by stmt_terms procedure.body + length procedure.values
  pub others : length p.others ≤ length p.terms + length p.rows + length procedure.values
  pub large : length p.large ≤ length p.terms

-- the columns' lengths are bounded by the size of the transactions. Handles alone add at most 2^30 names
pub record IsMeasured (c : Shared) (ts : List Txn) : Type 0 where
  pub names : length c.names ≤ 2 ^ 30 + 32 * log_size ts
  pub entries : entries_in c ≤ 16 * log_size ts
