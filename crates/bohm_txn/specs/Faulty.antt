-- The faults of a document, and their places. Transaction 0 is the document as a whole, and statement 0 a transaction's sets and counts.
use Rattle.std.specs.Prelude.{◌≡◌, ℕ, zero, suc, ◌<◌, List, [], ◌∷◌, length, take, count_by, Bool, true, false, ◌||◌, not, nat_le, ◌⊎◌}
use Rattle.std.specs.List.{list_all, list_any}
use Rattle.std.specs.Str.{bytes_eq}
use Rattle.bohm_txn.specs.declared.fault.CheckFault.{CheckFault}
use Rattle.bohm_txn.specs.declared.fault.CheckKind.{CheckKind}
use Rattle.bohm_txn.specs.declared.fault.CheckKind.TheVariants.{Order, Unread, Unwritten, Local, Limit}
use Rattle.bohm_types.specs.Keys.{rising, names_of, is_among, some_passes}
use Rattle.bohm_types.specs.Term.{Atom, Lit, Read}
use Rattle.bohm_types.specs.Term as atoms
use Rattle.bohm_types.specs.Stmt.{Stmt}
use Rattle.bohm_types.specs.Txn.{Txn}
use Rattle.bohm_types.specs.Document.{Document}
use Rattle.bohm_types.specs.Parts.{sums, tested, target, bound, is_show}
use Rattle.bohm_types.specs.Limits.{most_keys, most_shows, most_stmts, most_terms, most_txns}

-- ---- names and terms

abbrev pub binds : List ℕ → Stmt → Bool
binds x s = some_passes (λ y. bytes_eq y x) (bound s)

abbrev pub is_bound : List Stmt → List ℕ → Bool
is_bound before x = list_any (binds x) before

-- a key that the atom reads is among these
abbrev pub reads_among : List (List ℕ) → Atom → Bool
reads_among keys (Lit n) = true
reads_among keys (Read k) = is_among keys k
reads_among keys (atoms.Local x) = true

-- a local that the atom reads is bound by one of these
abbrev pub locals_bound : List Stmt → Atom → Bool
locals_bound before (Lit n) = true
locals_bound before (Read k) = true
locals_bound before (atoms.Local x) = is_bound before x

-- ---- the kinds of faults: of a document, of a transaction's sets and counts, and of a statement after others

abbrev pub whole_faulty : Document → CheckKind → Bool
whole_faulty d Order = not (rising (names_of d.store))
whole_faulty d Unread = false
whole_faulty d Unwritten = false
whole_faulty d Local = false
whole_faulty d Limit = not (nat_le (length d.log) most_txns)

abbrev pub sets_faulty : Txn → CheckKind → Bool
sets_faulty t Order = not (rising t.reads) || not (rising t.writes)
sets_faulty t Unread = false
sets_faulty t Unwritten = false
sets_faulty t Local = false
sets_faulty t Limit = not (nat_le (length t.body) most_stmts) || not (nat_le (length t.reads) most_keys) || not (nat_le (length t.writes) most_keys) || not
    (nat_le (count_by is_show t.body) most_shows)

-- a key that it reads is undeclared
abbrev pub is_unread : List (List ℕ) → Stmt → Bool
is_unread reads s = not (list_all (list_all (λ term. reads_among reads term.1)) (sums s)) || some_passes (λ k. not (is_among reads k)) (tested s)

-- the key that it writes is undeclared
abbrev pub is_unwritten : List (List ℕ) → Stmt → Bool
is_unwritten writes s = some_passes (λ k. not (is_among writes k)) (target s)

-- a local that it reads is unbound, or the name that it binds is bound
abbrev pub is_misnamed : List Stmt → Stmt → Bool
is_misnamed before s = not (list_all (list_all (λ term. locals_bound before term.1)) (sums s)) || some_passes (is_bound before) (bound s)

abbrev pub is_long : Stmt → Bool
is_long s = not (list_all (λ sum. nat_le (length sum) most_terms) (sums s))

abbrev pub stmt_faulty : Txn → List Stmt → Stmt → CheckKind → Bool
stmt_faulty t before s Order = false
stmt_faulty t before s Unread = is_unread t.reads s
stmt_faulty t before s Unwritten = is_unwritten t.writes s
stmt_faulty t before s Local = is_misnamed before s
stmt_faulty t before s Limit = is_long s

-- ---- the places

-- there is an element at this index, and it passes
abbrev pub passes_at : {A : Type 0} → (A → Bool) → List A → ℕ → Bool
passes_at p [] i = false
passes_at p (x ∷ xs) zero = p x
passes_at p (x ∷ xs) (suc i) = passes_at p xs i

abbrev pub txn_faulty : Txn → ℕ → CheckKind → Bool
txn_faulty t zero kind = sets_faulty t kind
txn_faulty t (suc i) kind = passes_at (λ s. stmt_faulty t (take i t.body) s kind) t.body i

abbrev pub faulty : Document → ℕ → ℕ → CheckKind → Bool
faulty d zero zero kind = whole_faulty d kind
faulty d zero (suc s) kind = false
faulty d (suc t) s kind = passes_at (λ txn. txn_faulty txn s kind) d.log t

abbrev pub Faulty : Document → ℕ → ℕ → CheckKind → Type 0
Faulty d t s kind = faulty d t s kind ≡ true

-- there is no faulty place
abbrev pub WellFormed : Document → Type 0
WellFormed d = (t s : ℕ) (kind : CheckKind) → ¬ Faulty d t s kind

abbrev pub rank : CheckKind → ℕ
rank Order = 1
rank Unread = 2
rank Unwritten = 3
rank Local = 4
rank Limit = 5

-- at the first faulty place, the least kind there
pub record IsFirstFault (d : Document) (f : CheckFault) : Type 0 where
  pub faulty_there : Faulty d f.txn f.stmt f.kind
  pub no_earlier : (t s : ℕ) (kind : CheckKind) → (t < f.txn) ⊎ ((t ≡ f.txn) × (s < f.stmt)) → ¬ Faulty d t s kind
  pub no_lesser : (kind : CheckKind) → rank kind < rank f.kind → ¬ Faulty d f.txn f.stmt kind

-- the document of only this transaction, over the empty store
abbrev pub alone : Txn → Document
alone t = record { edition = t.edition; store = []; log = t ∷ [] }

abbrev pub IsWellFormedTxn : Txn → Type 0
IsWellFormedTxn t = WellFormed (alone t)
