-- The names that a statement may use.
use Rattle.std.specs.Prelude.{ℕ, take}
use Rattle.bohm_types.specs.Txn.{Txn}
use Rattle.bohm_check.specs.declared.scope.Scope.{Scope}
use Rattle.bohm_check.specs.Names.{AreNamesOf, AreBoundBy}

-- the declared keys, and the locals that the first i statements bind
pub record IsScopeOf (t : Txn) (i : ℕ) (scope : Scope) : Type 0 where
  pub reads : AreNamesOf t.reads scope.reads
  pub writes : AreNamesOf t.writes scope.writes
  pub bound : AreBoundBy (take i t.body) scope.bound
