-- Calls, and the transaction that a call runs.
use Rattle.std.specs.Prelude.{◌≡◌, ℕ, ℤ, List, length, true}
use Rattle.bohm_types.specs.Txn.{Txn}
use Rattle.bohm_shapes.specs.declared.call.Call.{Call}
use Rattle.bohm_shapes.specs.declared.shape.Shape.{Shape}
use Rattle.bohm_shapes.specs.Filled.{txn_filled}
use Rattle.bohm_shapes.specs.Apart.{all_apart}
use Rattle.bohm_shapes.specs.Running.{IsUsable}

abbrev pub txn_of : Call → Txn
txn_of c = txn_filled c.shape.now c.keys.now c.values.now

-- the shape can be run, there is a key for each of its names and a value for each of its values, and no key occurs twice
pub record IsCall (c : Call) : Type 0 where
  pub usable : IsUsable c.shape.now
  pub apart : all_apart c.keys.now ≡ true
  pub paired : length c.keys.now ≡ length c.shape.now.names.items
  pub bound : length c.values.now ≡ c.shape.now.values

-- there is a key for each name of the shape and a value for each of its values, and no key occurs twice
pub record Takes (s : Shape) (keys : List (List ℕ)) (vs : List ℤ) : Type 0 where
  pub apart_keys : all_apart keys ≡ true
  pub as_many_keys : length keys ≡ length s.names.items
  pub as_many_values : length vs ≡ s.values
