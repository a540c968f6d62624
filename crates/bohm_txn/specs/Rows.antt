-- The effect of a statement's row, and which of the transaction's terms it has.
use Rattle.std.specs.Prelude.{◌≡◌, ℕ, ◌<◌, ◌-◌, ◌&&◌, List, Bool, true, false, ◌==◌, get_or, nat_le, nat_lt}
use Rattle.std.specs.List.{list_any}
use Rattle.bohm_log.specs.declared.row.Action.{Action}
use Rattle.bohm_log.specs.declared.row.Action.TheVariants.{Bind, Need, Has, Lacks, Put, PutWhen, Remove, Show, Fail}
use Rattle.bohm_log.specs.declared.row.AtomKind.{AtomKind}
use Rattle.bohm_log.specs.declared.row.AtomKind.TheVariants.{Small, Large, Read, Unread, Local}
use Rattle.bohm_log.specs.declared.row.StmtRow.{StmtRow}
use Rattle.bohm_types.specs.Limits.{most_stmts, most_terms}

-- where its last sum ends
abbrev pub end_by : Action → ℕ → ℕ → ℕ → ℕ → ℕ
end_by Bind start first second third = first
end_by (Need cmp) start first second third = second
end_by Has start first second third = start
end_by Lacks start first second third = start
end_by Put start first second third = first
end_by (PutWhen cmp) start first second third = third
end_by Remove start first second third = start
end_by Show start first second third = first
end_by Fail start first second third = start

abbrev pub end_of : StmtRow → ℕ
end_of r = end_by r.action r.start r.first r.second r.third

-- a term of this kind reads no undeclared key
abbrev pub is_declared : AtomKind → Bool
is_declared Small = true
is_declared Large = true
is_declared Read = true
is_declared Unread = false
is_declared Local = true

-- the name at this index has a note
abbrev pub has_note : List Bool → ℕ → Bool
has_note noted i = nat_lt i most_stmts && get_or noted i false

-- a term of this kind, with this index, is a literal, a declared read, or a local with a note
abbrev pub is_at_hand : List Bool → AtomKind → ℕ → Bool
is_at_hand noted Small i = true
is_at_hand noted Large i = true
is_at_hand noted Read i = true
is_at_hand noted Unread i = false
is_at_hand noted Local i = has_note noted i

-- its key is declared, if it has one
abbrev pub is_placed : Action → Bool → Bool
is_placed Bind declared = true
is_placed (Need cmp) declared = true
is_placed Has declared = declared
is_placed Lacks declared = declared
is_placed Put declared = declared
is_placed (PutWhen cmp) declared = declared
is_placed Remove declared = declared
is_placed Show declared = true
is_placed Fail declared = true

-- each of its three sums has few terms
abbrev pub has_short_sums : StmtRow → Bool
has_short_sums r = nat_le (r.first - r.start) most_terms && (nat_le (r.second - r.first) most_terms && nat_le (r.third - r.second) most_terms)

abbrev pub is_plain_row : StmtRow → Bool
is_plain_row r = is_placed r.action r.declared && has_short_sums r

-- it tests whether a key is present
abbrev pub tests_key : Action → Bool
tests_key Bind = false
tests_key (Need cmp) = false
tests_key Has = true
tests_key Lacks = true
tests_key Put = false
tests_key (PutWhen cmp) = false
tests_key Remove = false
tests_key Show = false
tests_key Fail = false

-- it writes a key
abbrev pub writes_key : Action → Bool
writes_key Bind = false
writes_key (Need cmp) = false
writes_key Has = false
writes_key Lacks = false
writes_key Put = true
writes_key (PutWhen cmp) = true
writes_key Remove = true
writes_key Show = false
writes_key Fail = false

abbrev pub binds_by : Action → ℕ → ℕ → Bool
binds_by Bind name i = name == i
binds_by (Need cmp) name i = false
binds_by Has name i = false
binds_by Lacks name i = false
binds_by Put name i = false
binds_by (PutWhen cmp) name i = false
binds_by Remove name i = false
binds_by Show name i = false
binds_by Fail name i = false

-- it binds the name at this index
abbrev pub binds_at : ℕ → StmtRow → Bool
binds_at i r = binds_by r.action r.name i

-- for each name with an index below the most statements, whether one of these statements binds it
abbrev pub AreNoted : List Bool → List StmtRow → Type 0
AreNoted noted rows = (i : ℕ) → i < most_stmts → get_or noted i false ≡ list_any (binds_at i) rows
