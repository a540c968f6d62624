-- A procedure in memory, and the instance that a call builds from it.
use Rattle.std.specs.Prelude.{◌≡◌, ℕ, ℤ, pos, ◌+◌, ◌-◌, ◌^◌, ◌<◌, ◌≤◌, List, [], ◌∷◌, ◌++◌, map, length, drop}
use Rattle.std.specs.Prelude.{Bool, true, false, Some, nat_lt, replicate, if◌then◌else◌}
use Rattle.std.specs.List.{AllByRecursion, IsDistinct, slice_index_or, slice_get, range_with_len}
use Rattle.std.specs.Str.{bytes_eq}
use Rattle.bohm_types.specs.declared.edition.Edition.{Edition}
use Rattle.bohm_types.specs.Keys.{IsAmong, place}
use Rattle.bohm_log.specs.declared.row.AtomKind.{AtomKind}
use Rattle.bohm_log.specs.declared.row.AtomKind.TheVariants.{Small, Large, Read, Unread, Local}
use Rattle.bohm_log.specs.declared.row.TermRow.{TermRow}
use Rattle.bohm_log.specs.declared.row.Action.{Action}
use Rattle.bohm_log.specs.declared.row.Action.TheVariants.{Bind, Need, Has, Lacks, Put, PutWhen, Remove, Show, Fail}
use Rattle.bohm_log.specs.declared.row.StmtRow.{StmtRow}
use Rattle.bohm_log.specs.declared.template.BodyColumns.{BodyColumns}
use Rattle.bohm_log.specs.declared.template.DeclaredName.{DeclaredName}
use Rattle.bohm_log.specs.declared.placed_body.PlacedBody.{PlacedBody}
use Rattle.bohm_log.specs.Parts.{Parts, IsWithin, names_at, stmt_of}
use Rattle.bohm_log.specs.Columns.{AllNamed}
use Rattle.bohm_types.specs.Accesses.{StmtReads, StmtWrites}
use Rattle.bohm_types.specs.KeySets.{key_set}
use Rattle.bohm_types.specs.Procedure.{Procedure, argument_or, is_minus}
use Rattle.std.specs.Int.RustNames.{unsigned_abs}
use Rattle.bohm_types.specs.Limits.{most_keys}

-- ---- a procedure

abbrev pub names_in : List DeclaredName → List (List ℕ)
names_in names = map (λ n. n.name) names

-- the name, with the index of the parameter that it is, if it is one
abbrev pub declared_name : List (List ℕ) → List ℕ → DeclaredName
declared_name params name = record { name = name; param = place params name }

-- the key that a declared name represents
abbrev pub argument_of : List (List ℕ) → DeclaredName → List ℕ
argument_of args n = argument_or n.name args n.param

abbrev pub parts_in : BodyColumns → Parts
parts_in t = record {
  reads = names_in t.reads.items;
  writes = names_in t.writes.items;
  others = t.others.items;
  large = t.large.items;
  terms = t.terms.items;
  rows = t.rows.items;
}

-- the parts are those of its own instance: first a statement for each value, whose name is among the other names
abbrev pub procedure_of : Edition → List (List ℕ) → List ℕ → Parts → Procedure
procedure_of e keys values p = record {
  edition = e;
  keys = keys;
  values = names_at p.others values;
  reads = p.reads;
  writes = p.writes;
  body = map (stmt_of p) (drop (length values) p.rows);
}

-- each name has the index of its parameter
abbrev pub AreDeclared : List (List ℕ) → List DeclaredName → Type 0
AreDeclared params names = names ≡ map (declared_name params) (names_in names)

-- the parts of an own instance that was read and is usable, with a statement for each value
pub record IsOwn (p : Parts) (locals : List ℕ) : Type 0 where
  pub within : IsWithin p
  pub apart : IsDistinct bytes_eq p.others
  pub values : AllNamed p.others locals
  pub lets : length locals ≤ length p.rows
  pub few_reads : length p.reads ≤ most_keys
  pub few_writes : length p.writes ≤ most_keys
  pub reads : AllByRecursion (StmtReads (IsAmong p.reads)) (map (stmt_of p) p.rows)
  pub writes : AllByRecursion (StmtWrites (IsAmong p.writes)) (map (stmt_of p) p.rows)

-- ---- other keys

-- for each key's index, the key's index in the set
pub record ArePlaces (keys set : List (List ℕ)) (to : List ℕ) : Type 0 where
  pub each : (i : ℕ) → i < length keys → slice_get set (slice_index_or to i 0) ≡ Some (slice_index_or keys i [])

abbrev pub term_by : List ℕ → AtomKind → Bool → ℕ → TermRow
term_by to Small minus i = record { kind = Small; minus = minus; place = i }
term_by to Large minus i = record { kind = Large; minus = minus; place = i }
term_by to Read minus i = record { kind = Read; minus = minus; place = slice_index_or to i 0 }
term_by to Unread minus i = record { kind = Small; minus = minus; place = 0 }
term_by to Local minus i = record { kind = Local; minus = minus; place = i }

abbrev pub term_to : List ℕ → TermRow → TermRow
term_to to t = term_by to t.kind t.minus t.place

abbrev pub name_by : List ℕ → List ℕ → Action → ℕ → ℕ
name_by r w Bind i = i
name_by r w (Need c) i = i
name_by r w Has i = slice_index_or r i 0
name_by r w Lacks i = slice_index_or r i 0
name_by r w Put i = slice_index_or w i 0
name_by r w (PutWhen c) i = slice_index_or w i 0
name_by r w Remove i = slice_index_or w i 0
name_by r w Show i = i
name_by r w Fail i = i

abbrev pub row_to : List ℕ → List ℕ → StmtRow → StmtRow
row_to r w s = record s { name = name_by r w s.action s.name }

-- ---- values

-- the term of a literal, after this many large ones
abbrev pub literal_term : ℕ → Bool → ℕ → TermRow
literal_term many minus n = if nat_lt n (2 ^ 32) then (record { kind = Small; minus = minus; place = n }) else
    (record { kind = Large; minus = minus; place = many })

abbrev pub literal_large : ℕ → List ℕ
literal_large n = if nat_lt n (2 ^ 32) then [] else n ∷ []

abbrev pub sum_terms : ℕ → Bool → ℕ → List TermRow
sum_terms many minus size = if nat_lt size (2 ^ 63) then literal_term many minus size ∷ [] else
    (literal_term many minus (2 ^ 63 - 1) ∷ literal_term many minus 1 ∷ [])

abbrev pub sum_large : ℕ → List ℕ
sum_large size = if nat_lt size (2 ^ 63) then literal_large size else literal_large (2 ^ 63 - 1)

abbrev pub value_terms : ℕ → ℤ → List TermRow
value_terms many v = sum_terms many (is_minus v) (unsigned_abs v)

abbrev pub value_large : ℤ → List ℕ
value_large v = sum_large (unsigned_abs v)

abbrev pub let_large : List ℤ → List ℕ
let_large [] = []
let_large (v ∷ vs) = value_large v ++ let_large vs

abbrev pub let_terms : ℕ → List ℤ → List TermRow
let_terms many [] = []
let_terms many (v ∷ vs) = value_terms many v ++ let_terms (many + length (value_large v)) vs

abbrev pub let_row : ℕ → ℕ → ℕ → StmtRow
let_row place start end = record { action = Bind; declared = false; name = place; start = start; first = end; second = end; third = end }

abbrev pub let_rows : ℕ → List ℕ → List ℤ → List StmtRow
let_rows start [] vs = []
let_rows start (i ∷ is) [] = []
let_rows start (i ∷ is) (v ∷ vs) = let_row i start (start + length (value_terms 0 v)) ∷ let_rows (start + length (value_terms 0 v)) is vs

-- ---- a body that is prepared

-- the terms and statements of a call whose keys are at these indices, and whose values are one term each
pub record IsPlaced (terms : List TermRow) (rows : List StmtRow) (locals reads writes : List ℕ) (b : PlacedBody) : Type 0 where
  pub same_terms : b.terms.items ≡ map (term_to reads) terms
  pub same_rows : b.rows.items ≡ let_rows (length terms) locals (replicate (length locals) (pos 0))
      ++ map (row_to reads writes) (drop (length locals) rows)

-- for keys in ascending order, and for two keys in descending order
pub record IsReady (body : BodyColumns) (locals : List ℕ) : Type 0 where
  pub rising : IsPlaced body.terms.items body.rows.items locals
      (range_with_len 0 (length body.reads.items)) (range_with_len 0 (length body.writes.items)) body.rising
  pub falling : IsPlaced body.terms.items body.rows.items locals (1 ∷ 0 ∷ []) (1 ∷ 0 ∷ []) body.falling

pub record IsTemplate (params : List (List ℕ)) (body : BodyColumns) (locals : List ℕ) : Type 0 where
  pub own : IsOwn (parts_in body) locals
  pub reads : AreDeclared params body.reads.items
  pub writes : AreDeclared params body.writes.items
  pub alike : body.same_sets ≡ true → body.reads.items ≡ body.writes.items
  pub ready : IsReady body locals

-- ---- a call

-- q is the parts' instance for these keys and values: the values' terms follow the body's, and their statements precede the body's
pub record IsCalled (reads writes : List (List ℕ)) (p : Parts) (values : List ℕ) (vs : List ℤ) (q : Parts) : Type 0 where
  pub same_reads : q.reads ≡ key_set reads
  pub same_writes : q.writes ≡ key_set writes
  pub others : q.others ≡ p.others
  pub read_places : List ℕ
  pub write_places : List ℕ
  pub reads_at : ArePlaces reads q.reads read_places
  pub writes_at : ArePlaces writes q.writes write_places
  pub large : q.large ≡ p.large ++ let_large vs
  pub terms : q.terms ≡ map (term_to read_places) p.terms ++ let_terms (length p.large) vs
  pub rows : q.rows ≡ let_rows (length p.terms) values vs ++ map (row_to read_places write_places) (drop (length values) p.rows)
