-- What a statement sees.
use Rattle.std.specs.Prelude.{ℕ}
use Rattle.bohm_types.specs.declared.cmp.Cmp.{Cmp}
use Rattle.bohm_types.specs.Stmt.{Cond}
use Rattle.bohm_log.specs.Parts.{Parts, sum_between}
use Rattle.bohm_txn.specs.declared.environment.Environment.{Environment}
use Rattle.bohm_txn.specs.Meaning.{Look}
use Rattle.bohm_txn.specs.Tables.{cell_at}

-- what each key holds for a statement: nothing if it isn't declared
abbrev pub look_of : Environment → Look
look_of e = cell_at e.txn.now.reads e.cells.now

-- the comparison of two consecutive sums
abbrev pub cond_between : Parts → Cmp → ℕ → ℕ → ℕ → Cond
cond_between p cmp i j k = record { left = sum_between p i j; cmp = cmp; right = sum_between p j k }
