-- Capacity for a transaction's evaluation.
use Rattle.std.specs.Prelude.{◌≡◌, ◌+◌, ◌<◌, ◌≤◌, [], ◌∷◌, length}
use Rattle.bohm_types.specs.Stmt.{Stmt}
use Rattle.bohm_types.specs.Txn.{Txn}
use Rattle.bohm_txn.specs.Declares.{shows_in}
use Rattle.bohm_txn.specs.declared.work.Work.{Work}
use Rattle.bohm_txn.specs.Tables.{Tables}
use Rattle.bohm_types.specs.Limits.{most_keys, most_shows, most_stmts}

abbrev pub tables_of : Work → Tables
tables_of w = record { locals = w.locals.0; seen = w.seen.0; cells = w.cells.0; shows = w.shows.0 }

-- capacity for 64 statements, 16 reads, 16 writes and 16 shows
pub record IsRoomy (w : Work) : Type 0 where
  pub locals : most_stmts ≤ w.locals.1
  pub seen : most_keys ≤ w.seen.1
  pub cells : most_keys ≤ w.cells.1
  pub shows : most_shows ≤ w.shows.1

-- capacity for what the statement binds and shows
pub record HasRoom (s : Stmt) (w : Work) : Type 0 where
  pub locals : length w.locals.0 < w.locals.1
  pub shows : length w.shows.0 + shows_in (s ∷ []) ≤ w.shows.1

-- each declared key has its cell
pub record IsSized (t : Txn) (w : Work) : Type 0 where
  pub seen : length w.seen.0 ≡ length t.reads
  pub cells : length w.cells.0 ≡ length t.writes

-- capacity stays, and a statement adds at most one local
pub record Grows (old new : Work) : Type 0 where
  pub locals : new.locals.1 ≡ old.locals.1
  pub seen : new.seen.1 ≡ old.seen.1
  pub cells : new.cells.1 ≡ old.cells.1
  pub shows : new.shows.1 ≡ old.shows.1
  pub more_locals : length new.locals.0 ≤ length old.locals.0 + 1
