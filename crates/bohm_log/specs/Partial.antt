-- A part of a log, as slices of the columns.
use Rattle.std.specs.Prelude.{List}
use Rattle.std.specs.List.{IsDistinct}
use Rattle.std.specs.Str.{bytes_eq}
use Rattle.bohm_log.specs.declared.table.Head.{Head}
use Rattle.bohm_log.specs.declared.table.Table.{Table}
use Rattle.bohm_log.specs.Columns.{Shared, IsLogged}
use Rattle.bohm_log.specs.Layers.{all_names}

-- the columns that the slices make up
abbrev pub shared_seen : Table → Shared
shared_seen t = record { names = all_names t.names; ids = t.ids.now; others = t.others.now; large = t.large.now; terms = t.terms.now; rows = t.rows.now }

pub record IsPart (t : Table) (heads : List Head) : Type 0 where
  pub logged : IsLogged (shared_seen t) heads
  -- each key has one number
  pub apart : IsDistinct bytes_eq (all_names t.names)
