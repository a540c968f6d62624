-- The state of `eval` while it runs a body: a cell for each declared key instead of the list of writes.
use Rattle.std.specs.Prelude.{ℕ, ℤ, ◌+◌, List, [], ◌∷◌, Option, Some, None, Result, Ok, Err, slice_set, slice_index_or}
use Rattle.bohm_types.specs.declared.cell.Cell.{Cell}
use Rattle.bohm_types.specs.declared.cell.Cell.TheVariants.{Absent}
use Rattle.bohm_types.specs.Stmt.{Stmt}
use Rattle.bohm_types.specs.declared.edition.Edition.{Edition}
use Rattle.bohm_types.specs.declared.edition.Edition.TheVariants.{One, Two}
use Rattle.bohm_types.specs.Txn.{Txn}
use Rattle.bohm_types.specs.Keys.{place}
use Rattle.bohm_txn.specs.declared.outcome.Reason.{Reason}
use Rattle.bohm_txn.specs.Meaning.{Look, Locals, Run, perform, then_do}

abbrev pub cell_from : List Cell → Option ℕ → Cell
cell_from cells None = Absent
cell_from cells (Some i) = slice_index_or cells i Absent

-- a key's cell, if the keys have these cells
abbrev pub cell_at : List (List ℕ) → List Cell → Look
cell_at keys cells = λ k. cell_from cells (place keys k)

abbrev pub set_from : List Cell → Option ℕ → Cell → List Cell
set_from cells None c = cells
set_from cells (Some i) c = slice_set cells i c

-- the cells, with the key's cell replaced
abbrev pub replaced : List (List ℕ) → List Cell → List ℕ → Cell → List Cell
replaced keys cells k c = set_from cells (place keys k) c

-- the cells that statements see: in edition 2 also the writes of earlier statements
abbrev pub seen_after : Edition → List (List ℕ) → List Cell → List ℕ → Cell → List Cell
seen_after One keys cells k c = cells
seen_after Two keys cells k c = replaced keys cells k c

pub record Tables : Type 0 where
  pub locals : Locals
  pub seen : List Cell
  pub cells : List Cell
  pub shows : List ℤ

abbrev pub start : List Cell → List Cell → Tables
start reads earlier = record { locals = []; seen = reads; cells = earlier; shows = [] }

-- the tables with a key's cell written
abbrev pub written : Txn → Tables → List ℕ → Cell → Tables
written t w k c = record w { seen = seen_after t.edition t.reads w.seen k c; cells = replaced t.writes w.cells k c }

abbrev pub all_written : Txn → Tables → List (List ℕ × Cell) → Tables
all_written t w [] = w
all_written t w (p ∷ ps) = all_written t (written t w p.0 p.1) ps

-- a run with these writes
abbrev pub run_with : Tables → List (List ℕ × Cell) → Run
run_with w writes = record { locals = w.locals; writes = writes; shows = w.shows }

-- the tables with the effects of a statement
abbrev pub taken : Txn → Tables → Run → Tables
taken t w run = all_written t (record w { locals = run.locals; shows = run.shows }) run.writes

-- the tables after a statement, or why it fails
abbrev pub step : Txn → Tables → Stmt → Result Tables Reason
step t w s = then_do (perform (cell_at t.reads w.seen) (run_with w []) s) (taken t w)

abbrev pub stop_at : ℕ → Result Tables Reason → (Tables → Result Tables (Reason × ℕ)) → Result Tables (Reason × ℕ)
stop_at n (Err r) f = Err (r, n)
stop_at n (Ok next) f = f next

-- the tables after statements, the first of which has number n; or why, and at which number, the first one failed
abbrev pub tables_from : Txn → Tables → ℕ → List Stmt → Result Tables (Reason × ℕ)
tables_from t w n [] = Ok w
tables_from t w n (s ∷ ss) = stop_at n (step t w s) (λ next. tables_from t next (n + 1) ss)
