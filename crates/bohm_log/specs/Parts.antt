-- A transaction's parts, and the transaction that they represent.
use Rattle.std.specs.Prelude.{◌≡◌, ℕ, ◌<◌, ◌≤◌, List, [], ◌++◌, map, length, Bool, true, false, Some, None}
use Rattle.std.specs.List.{All, between, slice_index_or, list_any}
use Rattle.std.specs.Str.{bytes_eq}
use Rattle.bohm_types.specs.Term.{Atom}
use Rattle.bohm_types.specs.Term as atoms
use Rattle.bohm_types.specs.Stmt.{Stmt}
use Rattle.bohm_types.specs.Stmt as stmts
use Rattle.bohm_types.specs.declared.edition.Edition.{Edition}
use Rattle.bohm_types.specs.Txn.{Txn}
use Rattle.bohm_log.specs.declared.row.AtomKind.{AtomKind}
use Rattle.bohm_log.specs.declared.row.AtomKind.TheVariants.{Small, Large, Read, Unread, Local}
use Rattle.bohm_log.specs.declared.row.TermRow.{TermRow}
use Rattle.bohm_log.specs.declared.row.Action.{Action}
use Rattle.bohm_log.specs.declared.row.Action.TheVariants.{Bind, Need, Has, Lacks, Put, PutWhen, Remove, Show, Fail}
use Rattle.bohm_log.specs.declared.row.StmtRow.{StmtRow}
use Rattle.bohm_types.specs.Limits.{most_keys}

-- the lists of one transaction
pub record Parts : Type 0 where
  pub reads : List (List ℕ)
  pub writes : List (List ℕ)
  pub others : List (List ℕ)
  pub large : List ℕ
  pub terms : List TermRow
  pub rows : List StmtRow

-- the name at an index
abbrev pub name_at : List (List ℕ) → ℕ → List ℕ
name_at names i = slice_index_or names i []

-- the names with these numbers
abbrev pub names_at : List (List ℕ) → List ℕ → List (List ℕ)
names_at names ids = map (name_at names) ids

-- the atom that an index denotes
abbrev pub atom_at : Parts → AtomKind → ℕ → Atom
atom_at p Small i = atoms.Lit i
atom_at p Large i = atoms.Lit (slice_index_or p.large i 0)
atom_at p Read i = atoms.Read (name_at p.reads i)
atom_at p Unread i = atoms.Read (name_at p.others i)
atom_at p Local i = atoms.Local (name_at p.others i)

abbrev pub term_of : Parts → TermRow → Bool × Atom
term_of p t = (t.minus, atom_at p t.kind t.place)

-- the sum of the terms from one offset up to another
abbrev pub sum_between : Parts → ℕ → ℕ → List (Bool × Atom)
sum_between p i j = map (term_of p) (between i j p.terms)

-- the key at an index of the declared keys, or else of the other names
abbrev pub key_at : List (List ℕ) → List (List ℕ) → Bool → ℕ → List ℕ
key_at keys others true i = name_at keys i
key_at keys others false i = name_at others i

-- the name that a statement's index denotes
abbrev pub named_by : Parts → Action → Bool → ℕ → List ℕ
named_by p Bind declared i = name_at p.others i
named_by p (Need c) declared i = []
named_by p Has declared i = key_at p.reads p.others declared i
named_by p Lacks declared i = key_at p.reads p.others declared i
named_by p Put declared i = key_at p.writes p.others declared i
named_by p (PutWhen c) declared i = key_at p.writes p.others declared i
named_by p Remove declared i = key_at p.writes p.others declared i
named_by p Show declared i = []
named_by p Fail declared i = []

-- the statement with this name and these sums, in order
abbrev pub stmt_made : Action → List ℕ → List (Bool × Atom) → List (Bool × Atom) → List (Bool × Atom) → Stmt
stmt_made Bind x a b c = stmts.Bind x a
stmt_made (Need cmp) x a b c = stmts.Need (record { left = a; cmp = cmp; right = b })
stmt_made Has x a b c = stmts.Has x
stmt_made Lacks x a b c = stmts.Lacks x
stmt_made Put x a b c = stmts.Put x a None
stmt_made (PutWhen cmp) x a b c = stmts.Put x a (Some (record { left = b; cmp = cmp; right = c }))
stmt_made Remove x a b c = stmts.Remove x
stmt_made Show x a b c = stmts.Show a
stmt_made Fail x a b c = stmts.Fail

-- the statement of a row, whose sums are consecutive
abbrev pub stmt_of : Parts → StmtRow → Stmt
stmt_of p r = stmt_made r.action (named_by p r.action r.declared r.name) (sum_between p r.start r.first) (sum_between p r.first r.second)
    (sum_between p r.second r.third)

-- the transaction that the lists represent
abbrev pub txn_of : Edition → Parts → Txn
txn_of e p = record { edition = e; reads = p.reads; writes = p.writes; body = map (stmt_of p) p.rows }

-- ---- indices within the lists

-- the key is none of the declared keys, if these are at most 16
abbrev pub IsApart : List (List ℕ) → List ℕ → Type 0
IsApart keys k = length keys ≤ most_keys → list_any (λ x. bytes_eq x k) keys ≡ false

-- an index of the other names, whose name is none of the declared keys
pub record OtherIn (keys others : List (List ℕ)) (i : ℕ) : Type 0 where
  pub within : i < length others
  pub apart : IsApart keys (name_at others i)

-- the index is within its list
abbrev pub PlaceIn : Parts → AtomKind → ℕ → Type 0
PlaceIn p Small i = Unit {0}
PlaceIn p Large i = i < length p.large
PlaceIn p Read i = i < length p.reads
PlaceIn p Unread i = OtherIn p.reads p.others i
PlaceIn p Local i = i < length p.others

abbrev pub TermIn : Parts → TermRow → Type 0
TermIn p t = PlaceIn p t.kind t.place

abbrev pub KeyIn : List (List ℕ) → List (List ℕ) → Bool → ℕ → Type 0
KeyIn keys others true i = i < length keys
KeyIn keys others false i = OtherIn keys others i

abbrev pub NameIn : Parts → Action → Bool → ℕ → Type 0
NameIn p Bind declared i = i < length p.others
NameIn p (Need c) declared i = Unit {0}
NameIn p Has declared i = KeyIn p.reads p.others declared i
NameIn p Lacks declared i = KeyIn p.reads p.others declared i
NameIn p Put declared i = KeyIn p.writes p.others declared i
NameIn p (PutWhen c) declared i = KeyIn p.writes p.others declared i
NameIn p Remove declared i = KeyIn p.writes p.others declared i
NameIn p Show declared i = Unit {0}
NameIn p Fail declared i = Unit {0}

-- the sums are within the terms, and the name's index is within its list
pub record RowIn (p : Parts) (r : StmtRow) : Type 0 where
  pub first : r.start ≤ r.first
  pub second : r.first ≤ r.second
  pub third : r.second ≤ r.third
  pub end : r.third ≤ length p.terms
  pub name : NameIn p r.action r.declared r.name

-- all indices and offsets are within the lists
pub record IsWithin (p : Parts) : Type 0 where
  pub terms : All (TermIn p) p.terms
  pub rows : All (RowIn p) p.rows

-- ---- parts that grow

-- the first list is a prefix of the second
abbrev pub Begins : {A : Type 0} → List A → List A → Type 0
Begins {A = A} xs ys = (more : List A) × (ys ≡ xs ++ more)

-- the body's names, terms and statements are extended, with the same declared keys
pub record Grows (p q : Parts) : Type 0 where
  pub reads : q.reads ≡ p.reads
  pub writes : q.writes ≡ p.writes
  pub others : Begins p.others q.others
  pub large : Begins p.large q.large
  pub terms : Begins p.terms q.terms
  pub rows : Begins p.rows q.rows
