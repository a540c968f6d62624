-- Names in two layers.
use Rattle.std.specs.Prelude.{ℕ, List, ◌++◌}
use Rattle.bohm_log.specs.declared.name_table.NameTable.{NameTable}

-- the shared names, and then the others
abbrev pub all_names : NameTable → List (List ℕ)
all_names t = t.shared.now ++ t.own.now
