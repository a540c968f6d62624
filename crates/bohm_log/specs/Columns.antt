-- The columns that all transactions share.
use Rattle.std.specs.Prelude.{◌≡◌, ℕ, ◌<◌, ◌≤◌, ◌+◌, ◌*◌, List, [], ◌++◌, length, take}
use Rattle.std.specs.List.{All, between, IsDistinct}
use Rattle.std.specs.Str.{bytes_eq}
use Rattle.bohm_types.specs.declared.edition.Edition.{Edition}
use Rattle.bohm_types.specs.Txn.{Txn}
use Rattle.bohm_log.specs.declared.row.TermRow.{TermRow}
use Rattle.bohm_log.specs.declared.row.StmtRow.{StmtRow}
use Rattle.bohm_log.specs.declared.table.Head.{Head}
use Rattle.bohm_log.specs.declared.columns.Columns.{Columns}
use Rattle.bohm_log.specs.declared.columns.Ends.{Ends}
use Rattle.bohm_log.specs.Parts.{Parts, Begins, IsWithin, names_at, txn_of}

-- the columns of all transactions of a log
pub record Shared : Type 0 where
  pub names : List (List ℕ)
  pub ids : List ℕ
  pub others : List (List ℕ)
  pub large : List ℕ
  pub terms : List TermRow
  pub rows : List StmtRow

abbrev pub shared_of : {S H : Type 0} → Columns S H → Shared
shared_of c = record { names = c.names; ids = c.ids.items; others = c.others.items; large = c.large.items; terms = c.terms.items; rows = c.rows.items }

abbrev pub nothing_shared : Shared
nothing_shared = record { names = []; ids = []; others = []; large = []; terms = []; rows = [] }

-- the parts that a head selects from the columns
abbrev pub parts_at : Shared → Head → Parts
parts_at c h = record {
  reads = names_at c.names (between h.ids h.reads c.ids);
  writes = names_at c.names (between h.reads h.writes c.ids);
  others = between h.others h.others_end c.others;
  large = between h.large h.large_end c.large;
  terms = between h.terms h.terms_end c.terms;
  rows = between h.rows h.rows_end c.rows;
}

abbrev pub txn_at : Shared → Head → Txn
txn_at c h = txn_of h.edition (parts_at c h)

-- each number is a name's
abbrev pub AllNamed : List (List ℕ) → List ℕ → Type 0
AllNamed names ids = All (λ i. i < length names) ids

-- the head's ranges are within the columns
pub record Spans (c : Shared) (h : Head) : Type 0 where
  pub reads : h.ids ≤ h.reads
  pub writes : h.reads ≤ h.writes
  pub ids : h.writes ≤ length c.ids
  pub others_rise : h.others ≤ h.others_end
  pub others : h.others_end ≤ length c.others
  pub large_rise : h.large ≤ h.large_end
  pub large : h.large_end ≤ length c.large
  pub terms_rise : h.terms ≤ h.terms_end
  pub terms : h.terms_end ≤ length c.terms
  pub rows_rise : h.rows ≤ h.rows_end
  pub rows : h.rows_end ≤ length c.rows

-- a head's transaction is within the columns
pub record HeadIn (c : Shared) (h : Head) : Type 0 where
  pub spans : Spans c h
  pub within : IsWithin (parts_at c h)
  -- names are distinct
  pub apart : IsDistinct bytes_eq (parts_at c h).others

-- each head is within the columns, and each number is a name's
pub record IsLogged (c : Shared) (heads : List Head) : Type 0 where
  pub each : All (HeadIn c) heads
  pub ids : AllNamed c.names c.ids

-- the columns d extend the columns c
pub record Widens (c d : Shared) : Type 0 where
  pub names : Begins c.names d.names
  pub ids : Begins c.ids d.ids
  pub others : Begins c.others d.others
  pub large : Begins c.large d.large
  pub terms : Begins c.terms d.terms
  pub rows : Begins c.rows d.rows

-- ---- how long columns are

-- how many entries the columns have, except names and their numbers
abbrev pub rest_in : Shared → ℕ
rest_in c = length c.others + length c.large + length c.terms + length c.rows

-- how many entries all columns but the names have
abbrev pub entries_in : Shared → ℕ
entries_in c = length c.ids + rest_in c

-- how many entries a transaction's parts are
abbrev pub entries_of : Parts → ℕ
entries_of p = length p.reads + length p.writes + length p.others + length p.large + length p.terms + length p.rows

-- more names than this many declared keys add
abbrev pub most_names : ℕ → ℕ → ℕ
most_names reads writes = 32 * (1 + reads + writes)

-- more than all columns hold after the parts are appended
abbrev pub held_with : Shared → Parts → ℕ
held_with c p = length c.names + most_names (length p.reads) (length p.writes) + entries_in c + entries_of p

-- parts were appended, except those that an earlier call may have appended already, and few names were added
pub record Longer (c d : Shared) (p : Parts) : Type 0 where
  pub names : length d.names ≤ length c.names + most_names (length p.reads) (length p.writes)
  pub entries : entries_in d ≤ entries_in c + entries_of p

abbrev pub ends_of : Shared → Ends
ends_of c = record {
  names = length c.names;
  ids = length c.ids;
  others = length c.others;
  large = length c.large;
  terms = length c.terms;
  rows = length c.rows;
}

-- the columns up to these ends
abbrev pub cut_to : Ends → Shared → Shared
cut_to e c = record {
  names = take e.names c.names;
  ids = take e.ids c.ids;
  others = take e.others c.others;
  large = take e.large c.large;
  terms = take e.terms c.terms;
  rows = take e.rows c.rows;
}

-- ---- numbering names

-- the columns d extend c, and their numbers are still those of names
pub record Interns (c d : Shared) : Type 0 where
  pub widens : Widens c d
  pub ids : AllNamed c.names c.ids → AllNamed d.names d.ids

-- the numbers of these names were appended
pub record NumbersCome (c d : Shared) (names : List (List ℕ)) : Type 0 where
  pub interns : Interns c d
  pub more : List ℕ
  pub added : d.ids ≡ c.ids ++ more
  pub named : AllNamed d.names more
  pub same : names_at d.names more ≡ names
  pub rest : rest_in d ≡ rest_in c

-- the numbers of these names start at an offset
pub record NumbersStand (c : Shared) (from : ℕ) (names : List (List ℕ)) : Type 0 where
  pub before : List ℕ
  pub numbers : List ℕ
  pub after : List ℕ
  pub ids : c.ids ≡ before ++ (numbers ++ after)
  pub begin : from ≡ length before
  pub named : AllNamed c.names numbers
  pub same : names_at c.names numbers ≡ names

-- the numbers of these names start at an offset and end the column
pub record NumbersEnd (c : Shared) (from : ℕ) (names : List (List ℕ)) : Type 0 where
  pub before : List ℕ
  pub numbers : List ℕ
  pub ids : c.ids ≡ before ++ numbers
  pub begin : from ≡ length before
  pub named : AllNamed c.names numbers
  pub same : names_at c.names numbers ≡ names

-- the column has the list between these offsets
pub record Lands {A : Type 0} (column part : List A) (from to : ℕ) : Type 0 where
  pub rise : from ≤ to
  pub end : to ≤ length column
  pub same : between from to column ≡ part

-- the numbers of reads and of writes are between these offsets
pub record Sets (d : Shared) (ids reads writes : ℕ) (the_reads the_writes : List (List ℕ)) : Type 0 where
  pub rise_reads : ids ≤ reads
  pub rise_writes : reads ≤ writes
  pub end : writes ≤ length d.ids
  pub reads_are : names_at d.names (between ids reads d.ids) ≡ the_reads
  pub writes_are : names_at d.names (between reads writes d.ids) ≡ the_writes

-- the numbers of reads and writes were added, between these offsets
pub record SetsCome (c d : Shared) (ids reads writes : ℕ) (the_reads the_writes : List (List ℕ)) : Type 0 where
  pub interns : Interns c d
  pub sets : Sets d ids reads writes the_reads the_writes
  pub longer : length d.ids ≡ length c.ids + (length the_reads + length the_writes)
  pub names : length d.names ≤ length c.names + most_names (length the_reads) (length the_writes)
  pub rest : rest_in d ≡ rest_in c

-- a transaction's parts were appended
pub record Appends (c d : Shared) (h : Head) (e : Edition) (p : Parts) : Type 0 where
  pub edition : h.edition ≡ e
  pub interns : Interns c d
  pub spans : Spans d h
  pub parts : parts_at d h ≡ p
  pub longer : Longer c d p
