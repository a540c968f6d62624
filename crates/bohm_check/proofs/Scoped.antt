-- The names that a statement may use, after one more statement.
use Rattle.std.proofs.Common.{◌≡◌, ℕ, ◌+◌, List}
use Rattle.std.specs.Prelude.{Some, None, ◌||◌}
use Rattle.std.specs.List.{slice_get}
use Rattle.std.specs.Str.{bytes_eq}
use Rattle.bohm_types.specs.Parts.{bound}
use Rattle.bohm_types.specs.Stmt.{Stmt}
use Rattle.bohm_types.specs.Txn.{Txn}
use Rattle.bohm_check.specs.declared.scope.Scope.{Scope}
use Rattle.bohm_check.specs.Names.{has}
use Rattle.bohm_check.specs.Scopes.{IsScopeOf}
use Rattle.bohm_check.proofs.Named.{one_bound, none_bound}

module _ (t : Txn) (i : ℕ) (s : Stmt) (old : Scope) (before : IsScopeOf t i old) (at : slice_get t.body i ≡ Some s) where
  pub with_one : (name : List ℕ) (new : Scope) → bound s ≡ Some name → new.reads ≡ old.reads → new.writes ≡ old.writes
      → ((k : List ℕ) → has new.bound k ≡ (has old.bound k || bytes_eq name k)) → IsScopeOf t (i + 1) new
  with_one name new binds_it reads writes added = record {
    reads = rw reads before.reads;
    writes = rw writes before.writes;
    bound = one_bound t.body i s at old.bound before.bound name new.bound binds_it added;
  }

  pub with_none : bound s ≡ None → IsScopeOf t (i + 1) old
  with_none binds_none = record {
    reads = before.reads;
    writes = before.writes;
    bound = none_bound t.body i s at old.bound before.bound binds_none;
  }
