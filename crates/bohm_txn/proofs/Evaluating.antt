-- The cells that a statement reads and writes by index.
use Rattle.std.proofs.Common.{◌≡◌, ℕ, zero, suc, ◌<◌, ◌≤◌, Bool, true, false, List, [], ◌∷◌, length}
use Rattle.std.proofs.Common.{map, Option, Some, None, slice_set, refl, ap, sym, ◌∙◌, arith}
use Rattle.std.specs.Prelude.{Ok, Err, not, if◌then◌else◌}
use Rattle.std.specs.List.{AllByRecursion, slice_index_or}
use Rattle.std.proofs.lemmas.List.{get_or_default}
use Rattle.std.proofs.lemmas.Option.{slice_get-get_or}
use Rattle.std.specs.Option.{option_eq}
use Rattle.std.specs.Str.{bytes_eq}
use Rattle.bohm_types.specs.declared.cell.Cell.{Cell}
use Rattle.bohm_types.specs.declared.cell.Cell.TheVariants.{Absent}
use Rattle.bohm_types.specs.declared.edition.Edition.{Edition}
use Rattle.bohm_types.specs.declared.edition.Edition.TheVariants.{One, Two}
use Rattle.bohm_types.specs.Stmt.{Stmt}
use Rattle.bohm_types.specs.Keys.{place, rising, some_passes}
use Rattle.bohm_log.specs.declared.row.Action.{Action}
use Rattle.bohm_log.specs.declared.row.Action.TheVariants as actions
use Rattle.bohm_log.specs.declared.row.AtomKind.{AtomKind}
use Rattle.bohm_log.specs.declared.row.AtomKind.TheVariants as kinds
use Rattle.bohm_log.specs.declared.row.StmtRow.{StmtRow}
use Rattle.bohm_log.specs.Parts.{Parts, KeyIn, PlaceIn, atom_at, key_at, name_at, named_by, stmt_made, stmt_of, sum_between, txn_of}
use Rattle.bohm_txn.specs.declared.outcome.Reason.TheVariants as reasons
use Rattle.bohm_txn.specs.declared.environment.Environment.{Environment}
use Rattle.bohm_txn.specs.Meaning.{Locals, Look, atom_value, is_present, needs, number_in, then_do}
use Rattle.bohm_txn.specs.Seeing.{look_of}
use Rattle.bohm_txn.specs.Tables.{Tables, cell_at, replaced, run_with, set_from, step, taken, written}
use Rattle.bohm_txn.proofs.Apart.{rising_apart}
use Rattle.bohm_txn.proofs.Places.{only_place}
use Rattle.bohm_txn.proofs.Placing.{placed_read, unread_absent}

-- ---- cells that are read by index

read_there : (keys : List (List ℕ)) (cells : List Cell) (i : ℕ) (c : Cell) → rising keys ≡ true → length keys ≡ length cells → i < length keys
    → slice_index_or cells i c ≡ cell_at keys cells (name_at keys i)
read_there keys cells i c up long inside = get_or_default cells i c Absent (omega (arith, long, inside)) ∙ sym (placed_read keys cells i up inside)

pub declared_cell : (keys others : List (List ℕ)) (cells : List Cell) (d : Bool) (i : ℕ) (c : Cell) → rising keys ≡ true → length keys ≡ length cells
    → KeyIn keys others d i → d ≡ true → slice_index_or cells i c ≡ cell_at keys cells (key_at keys others d i)
declared_cell keys others cells true i c up long inside is = read_there keys cells i c up long inside
declared_cell keys others cells false i c up long inside is = absurd cc

pub other_cell : (keys others : List (List ℕ)) (cells : List Cell) (d : Bool) (i : ℕ) → rising keys ≡ true → length keys ≤ 16 → KeyIn keys others d i
    → d ≡ false → Absent ≡ cell_at keys cells (key_at keys others d i)
other_cell keys others cells true i up few inside is = absurd cc
other_cell keys others cells false i up few inside is = sym (unread_absent keys cells (name_at others i) up few inside.apart)

module _ (p : Parts) (cells : List Cell) (locals : Locals) where
  pub read_number : (k : AtomKind) (i : ℕ) (c : Cell) → rising p.reads ≡ true → length p.reads ≡ length cells → PlaceIn p k i → k ≡ kinds.Read
      → number_in (slice_index_or cells i c) ≡ atom_value (cell_at p.reads cells) locals (atom_at p k i)
  read_number kinds.Read i c up long inside is = ap number_in (read_there p.reads cells i c up long inside)
  read_number kinds.Small i c up long inside is = absurd cc
  read_number kinds.Large i c up long inside is = absurd cc
  read_number kinds.Unread i c up long inside is = absurd cc
  read_number kinds.Local i c up long inside is = absurd cc

  pub unread_number : (k : AtomKind) (i : ℕ) → rising p.reads ≡ true → length p.reads ≤ 16 → PlaceIn p k i → k ≡ kinds.Unread
      → None ≡ atom_value (cell_at p.reads cells) locals (atom_at p k i)
  unread_number kinds.Unread i up few inside is = ap number_in (sym (unread_absent p.reads cells (name_at p.others i) up few inside.apart))
  unread_number kinds.Small i up few inside is = absurd cc
  unread_number kinds.Large i up few inside is = absurd cc
  unread_number kinds.Read i up few inside is = absurd cc
  unread_number kinds.Local i up few inside is = absurd cc

-- ---- the tables with a cell written by index

own_place : (keys : List (List ℕ)) (i : ℕ) → rising keys ≡ true → i < length keys → place keys (name_at keys i) ≡ Some i
own_place keys i up inside = only_place keys (name_at keys i) (Some i) (rising_apart keys up) (slice_get-get_or keys i [] inside)

module _ (p : Parts) (w : Tables) (i : ℕ) (c : Cell) (up : rising p.writes ≡ true) (inside : i < length p.writes) where
  pub written_blind : (e : Edition) → e ≡ One → written (txn_of e p) w (name_at p.writes i) c ≡ record w { cells = slice_set w.cells i c }
  written_blind One is = ap (λ (o : Option ℕ). record w { cells = set_from w.cells o c }) (own_place p.writes i up inside)
  written_blind Two is = absurd cc

  pub written_seen : (e : Edition) → e ≡ Two → written (txn_of e p) w
      (name_at p.writes i) c ≡ record w { seen = replaced p.reads w.seen (name_at p.writes i) c; cells = slice_set w.cells i c }
  written_seen One is = absurd cc
  written_seen Two is = ap (λ (o : Option ℕ). record w { seen = replaced p.reads w.seen (name_at p.writes i) c; cells = set_from w.cells o c })
      (own_place p.writes i up inside)

-- ---- whether a statement's target is a key

pub is_key : (k : List ℕ) (o : Option (List ℕ)) → option_eq bytes_eq o (Some k) ≡ some_passes (λ x. bytes_eq x k) o
is_key k None = refl
is_key k (Some x) = refl

-- ---- tests for the presence of a key

module _ (e : Edition) (p : Parts) (r : StmtRow) (w : Tables) (v : Environment) (b : Bool) (same : v.txn.now ≡ p) (sees : look_of v ≡ cell_at p.reads w.seen)
    (has : b ≡ is_present (look_of v (key_at v.txn.now.reads v.txn.now.others r.declared r.name))) where
  abbrev made : Action → Stmt
  made a = stmt_made a (named_by p a r.declared r.name) (sum_between p r.start r.first) (sum_between p r.first r.second) (sum_between p r.second r.third)

  abbrev key : List ℕ
  key = key_at p.reads p.others r.declared r.name

  holds : is_present (cell_at p.reads w.seen key) ≡ b
  holds = sym (has ∙ ap (λ (q : Parts). is_present (look_of v (key_at q.reads q.others r.declared r.name))) same
      ∙ ap (λ (look : Look). is_present (look key)) sees)

  pub has_step : r.action ≡ actions.Has → step (txn_of e p) w (stmt_of p r) ≡ (if b then Ok w else Err reasons.Need)
  has_step is = ap (λ (a : Action). step (txn_of e p) w (made a)) is ∙ ap (λ (x : Bool). then_do (needs (run_with w []) x) (taken (txn_of e p) w)) holds
      ∙ ended b
    where
      ended : (x : Bool) → then_do (needs (run_with w []) x) (taken (txn_of e p) w) ≡ (if x then Ok w else Err reasons.Need)
      ended true = refl
      ended false = refl

  pub lacks_step : r.action ≡ actions.Lacks → step (txn_of e p) w (stmt_of p r) ≡ (if b then Err reasons.Need else Ok w)
  lacks_step is = ap (λ (a : Action). step (txn_of e p) w (made a)) is
      ∙ ap (λ (x : Bool). then_do (if x then Err reasons.Need else Ok (run_with w [])) (taken (txn_of e p) w)) holds ∙ ended b
    where
      ended : (x : Bool) → then_do (if x then Err reasons.Need else Ok (run_with w [])) (taken (txn_of e p) w) ≡ (if x then Err reasons.Need else Ok w)
      ended true = refl
      ended false = refl

pub not_parts : (b c : Bool) → not b ≡ c → b ≡ not c
not_parts true c is = ap not is
not_parts false c is = ap not is

-- ---- a property of each statement, for the statement at an index

pub each_at : {A B : Type 0} (P : B → Type 0) (f : A → B) (xs : List A) (i : ℕ) (d : A) → i < length xs → AllByRecursion P (map f xs)
    → P (f (slice_index_or xs i d))
each_at P f [] i d h all = absurd (omega (arith, h))
each_at P f (x ∷ xs) zero d h all = all.0
each_at P f (x ∷ xs) (suc i) d h all = each_at P f xs i d (omega (arith, h)) all.1
