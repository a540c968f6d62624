-- The keys that transactions declare, by number.
use Rattle.std.specs.Prelude.{◌≡◌, ℕ, ◌≤◌, List, map, length}
use Rattle.std.specs.List.{All, between, IsDistinct}
use Rattle.std.specs.Str.{bytes_eq}
use Rattle.bohm_types.specs.Txn.{Txn}
use Rattle.bohm_log.specs.declared.table.Head.{Head}
use Rattle.bohm_log.specs.Parts.{names_at}
use Rattle.bohm_log.specs.Columns.{AllNamed}

-- names by number, and what transactions declare, as numbers
pub record Numbered : Type 0 where
  pub names : List (List ℕ)
  -- each transaction's reads and writes
  pub sets : List (List ℕ × List ℕ)

-- the keys with these numbers
abbrev pub named_sets : List (List ℕ) → List ℕ × List ℕ → List (List ℕ) × List (List ℕ)
named_sets names s = (names_at names s.0, names_at names s.1)

-- the keys that a transaction reads and writes
abbrev pub declared_sets : Txn → List (List ℕ) × List (List ℕ)
declared_sets t = (t.reads, t.writes)

-- the numbers are those of the keys that the transactions declare, and each key has one number
pub record Numbers (n : Numbered) (txns : List Txn) : Type 0 where
  pub apart : IsDistinct bytes_eq n.names
  pub same : map (named_sets n.names) n.sets ≡ map declared_sets txns

-- ---- numbered keys in memory

abbrev pub sets_at : List ℕ → Head → List ℕ × List ℕ
sets_at ids h = (between h.ids h.reads ids, between h.reads h.writes ids)

pub record SetsIn (ids : List ℕ) (h : Head) : Type 0 where
  pub reads : h.ids ≤ h.reads
  pub writes : h.reads ≤ h.writes
  pub end : h.writes ≤ length ids

pub record IsNumbered (names : List (List ℕ)) (ids : List ℕ) (heads : List Head) : Type 0 where
  pub each : All (SetsIn ids) heads
  pub named : AllNamed names ids
  pub apart : IsDistinct bytes_eq names
