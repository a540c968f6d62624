-- The order and the limits in a well-formed document and its transactions.
use Rattle.std.proofs.Common.{◌≡◌, ℕ, zero, suc, ◌≤◌, List, [], ◌∷◌, length, take, get_or, Bool, true, false, Option, Some, None, refl, sym, subst, arith}
use Rattle.std.specs.Prelude.{not, ◌||◌, ◌&&◌, nat_le}
use Rattle.std.specs.List.{All, AllByRecursion, list_all, slice_get}
use Rattle.std.proofs.lemmas.Bool.Decides.{nat_tests}
use Rattle.std.proofs.lemmas.Bool.{false≢true}
use Rattle.std.proofs.lemmas.Option.{slice_get-get_or}
use Rattle.bohm_txn.specs.declared.fault.CheckKind.{CheckKind}
use Rattle.bohm_txn.specs.declared.fault.CheckKind.TheVariants.{Order, Unread, Unwritten, Local, Limit}
use Rattle.bohm_types.specs.Term.{Atom, Lit, Read}
use Rattle.bohm_types.specs.Term as atoms
use Rattle.bohm_types.specs.Stmt.{Stmt}
use Rattle.bohm_types.specs.Txn.{Txn}
use Rattle.bohm_types.specs.Document.{Document}
use Rattle.bohm_types.specs.Parts.{sums, tested, target}
use Rattle.bohm_types.specs.Keys.{some_passes, is_among, rising, names_of, IsAmong}
use Rattle.bohm_txn.specs.Faulty.{passes_at, txn_faulty, stmt_faulty, faulty, WellFormed, alone, IsWellFormedTxn, reads_among}
use Rattle.bohm_types.specs.Accesses.{OnSomeKey, AtomReads, SumReads, StmtReads, StmtWrites}
use Rattle.bohm_txn.specs.Declares.{IsUsable, AllShort, shows_in}

kept : (b : Bool) → ¬ (not b ≡ true) → b ≡ true
kept true h = refl
kept false h = absurd (h refl)

not_left : (a b : Bool) → ¬ ((a || b) ≡ true) → ¬ (a ≡ true)
not_left true b h = λ e. h refl
not_left false b h = false≢true

not_right : (a b : Bool) → ¬ ((a || b) ≡ true) → ¬ (b ≡ true)
not_right true b h = λ e. h refl
not_right false b h = h

le_from : (m n : ℕ) → nat_le m n ≡ true → m ≤ n
le_from m n e = grind (arith, nat_tests)

all_kept : {A : Type 0} (p : A → Bool) (P : A → Type 0) → ((x : A) → p x ≡ true → P x) → (xs : List A) → ¬ (not (list_all p xs) ≡ true) → AllByRecursion P xs
all_kept p P each [] h = tt
all_kept p P each (x ∷ xs) h =
    elim (p x) as (λ b. p x ≡ b → ¬ (not (b && list_all p xs) ≡ true) → AllByRecursion P (x ∷ xs)) [
      | true ↦ λ e g. (each x e, all_kept p P each xs g)
      | false ↦ λ e g. absurd (g refl)
    ] refl h

-- ---- a document's transactions

pub at_some : {A : Type 0} (p : A → Bool) (xs : List A) (i : ℕ) (x : A) → slice_get xs i ≡ Some x → p x ≡ true → passes_at p xs i ≡ true
at_some p [] i x e h = absurd cc
at_some p (y ∷ ys) zero x e h = let same : y ≡ x = cc in rw same h
at_some p (y ∷ ys) (suc i) x e h = at_some p ys i x e h

pub txn_in : (d : Document) (i : ℕ) (t : Txn) → WellFormed d → slice_get d.log i ≡ Some t → IsWellFormedTxn t
txn_in d i t well e = within
  where
    within : (n s : ℕ) (kind : CheckKind) → ¬ (faulty (alone t) n s kind ≡ true)
    within zero zero Order = false≢true
    within zero zero Unread = false≢true
    within zero zero Unwritten = false≢true
    within zero zero Local = false≢true
    within zero zero Limit = false≢true
    within zero (suc s) kind = false≢true
    within (suc zero) s kind = λ h. well (suc i) s kind (at_some (λ u. txn_faulty u s kind) d.log i t e h)
    within (suc (suc n)) s kind = false≢true

pub all_in : (d : Document) → WellFormed d → All IsWellFormedTxn d.log
all_in d well = λ k t l. txn_in d k (get_or d.log k t) well (slice_get-get_or d.log k t l)

pub rising_store : (d : Document) → WellFormed d → rising (names_of d.store) ≡ true
rising_store d well = kept (rising (names_of d.store)) (well 0 0 Order)

pub few_txns : (d : Document) → WellFormed d → length d.log ≤ 1000000
few_txns d well = le_from (length d.log) 1000000 (kept (nat_le (length d.log) 1000000) (well 0 0 Limit))

-- ---- a transaction's declared sets and counts

pub rising_reads : (t : Txn) → IsWellFormedTxn t → rising t.reads ≡ true
rising_reads t well = kept (rising t.reads) (not_left (not (rising t.reads)) (not (rising t.writes)) (well 1 0 Order))

pub rising_writes : (t : Txn) → IsWellFormedTxn t → rising t.writes ≡ true
rising_writes t well = kept (rising t.writes) (not_right (not (rising t.reads)) (not (rising t.writes)) (well 1 0 Order))

counts : (a b c d : Bool) → ¬ ((not a || not b || not c || not d) ≡ true) → (a ≡ true) × (b ≡ true) × (c ≡ true) × (d ≡ true)
counts true true true true h = (refl, refl, refl, refl)
counts true true true false h = absurd (h refl)
counts true true false d h = absurd (h refl)
counts true false c d h = absurd (h refl)
counts false b c d h = absurd (h refl)

-- ---- a transaction's statements

-- if no statement is faulty after the earlier statements that f gives, P holds for each statement
stmts_of : (t : Txn) (P : Stmt → Type 0) (kind : CheckKind) → ((before : List Stmt) (s : Stmt) → ¬ (stmt_faulty t before s kind ≡ true) → P s)
    → (f : ℕ → List Stmt) (ss : List Stmt) → ((i : ℕ) → ¬ (passes_at (λ s. stmt_faulty t (f i) s kind) ss i ≡ true)) → AllByRecursion P ss
stmts_of t P kind each f [] h = tt
stmts_of t P kind each f (s ∷ ss) h = (each (f 0) s (h 0), stmts_of t P kind each (λ i. f (suc i)) ss (λ i. h (suc i)))

in_body : (t : Txn) → IsWellFormedTxn t → (P : Stmt → Type 0) (kind : CheckKind)
    → ((before : List Stmt) (s : Stmt) → ¬ (stmt_faulty t before s kind ≡ true) → P s) → AllByRecursion P t.body
in_body t well P kind each = stmts_of t P kind each (λ i. take i t.body) t.body (λ i. well 1 (suc i) kind)

atom_reads : (keys : List (List ℕ)) (a : Atom) → reads_among keys a ≡ true → AtomReads (IsAmong keys) a
atom_reads keys (Lit n) e = tt
atom_reads keys (Read k) e = e
atom_reads keys (atoms.Local x) e = tt

sum_reads : (keys : List (List ℕ)) (sum : List (Bool × Atom)) → list_all (λ term. reads_among keys term.1) sum ≡ true → SumReads (IsAmong keys) sum
sum_reads keys sum e = all_kept (λ term. reads_among keys term.1) (λ term. AtomReads (IsAmong keys) term.1) (λ term h. atom_reads keys term.1 h) sum
    (subst (λ b. ¬ (not b ≡ true)) (sym e) false≢true)

on_key : (keys : List (List ℕ)) (o : Option (List ℕ)) → ¬ (some_passes (λ k. not (is_among keys k)) o ≡ true) → OnSomeKey (IsAmong keys) o
on_key keys None h = tt
on_key keys (Some k) h = kept (is_among keys k) h

stmt_reads : (keys : List (List ℕ)) (s : Stmt)
    → ¬ ((not (list_all (list_all (λ term. reads_among keys term.1)) (sums s)) || some_passes (λ k. not (is_among keys k)) (tested s)) ≡ true)
    → StmtReads (IsAmong keys) s
stmt_reads keys s h =
    let unsummed : Bool = not (list_all (list_all (λ term. reads_among keys term.1)) (sums s)) in
    let untested : Bool = some_passes (λ k. not (is_among keys k)) (tested s) in (
      all_kept (list_all (λ term. reads_among keys term.1)) (SumReads (IsAmong keys)) (sum_reads keys) (sums s) (not_left unsummed untested h),
      on_key keys (tested s) (not_right unsummed untested h),
    )

pub usable : (t : Txn) → IsWellFormedTxn t → IsUsable t
usable t well =
    let few = counts (nat_le (length t.body) 64) (nat_le (length t.reads) 16) (nat_le (length t.writes) 16) (nat_le (shows_in t.body) 16) (well 1 0 Limit) in
    record {
      few_stmts = le_from (length t.body) 64 few.0;
      few_reads = le_from (length t.reads) 16 few.1;
      few_writes = le_from (length t.writes) 16 few.2;
      few_shows = le_from (shows_in t.body) 16 few.3;
      short = in_body t well AllShort Limit
          (λ before s h. all_kept (λ sum. nat_le (length sum) 16) (λ sum. length sum ≤ 16) (λ sum e. le_from (length sum) 16 e) (sums s) h);
      reads = in_body t well (StmtReads (IsAmong t.reads)) Unread (λ before s h. stmt_reads t.reads s h);
      writes = in_body t well (StmtWrites (IsAmong t.writes)) Unwritten (λ before s h. on_key t.writes (target s) h);
    }
