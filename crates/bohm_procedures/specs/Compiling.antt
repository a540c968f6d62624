-- The compiled body of a procedure, and the transaction that a call of it runs.
use Rattle.std.specs.Prelude.{◌≡◌, ℕ, ℤ, List, map}
use Rattle.bohm_types.specs.Keys.{place}
use Rattle.bohm_types.specs.Procedure.{Procedure, instance, stands_for}
use Rattle.bohm_types.specs.Txn.{Txn}
use Rattle.bohm_shapes.specs.Made.{IsLike}
use Rattle.bohm_shapes.specs.Running.{IsUsable}
use Rattle.bohm_procedures.specs.declared.compiled.Compiled.{Compiled}

-- the shape is the procedure's, and its names are those of these parameters
pub record IsCompiled (p : Procedure) (c : Compiled) : Type 0 where
  pub like : IsLike p c.shape
  pub usable : IsUsable c.shape
  pub parameters : c.parameters.items ≡ map (place p.keys) c.shape.names.items

-- the instance of the procedure, which declares its writes in the procedure's order
abbrev pub run_of : Procedure → List (List ℕ) → List ℤ → Txn
run_of p ks vs = record (instance p ks vs) { writes = map (stands_for p.keys ks) p.writes }
