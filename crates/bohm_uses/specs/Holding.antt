-- What a machine holds.
use Rattle.std.specs.Prelude.{◌≡◌, ℕ, ℤ, List, length}
use Rattle.std.specs.FinMap.{entries}
use Rattle.bohm.specs.Machines.{now_of}
use Rattle.bohm.specs.Stores.{cell_in, store_of}
use Rattle.bohm.specs.Versions.{Timeline}

-- this many keys have a value after the last transaction
pub record HaveValues (m : Timeline) (count : ℕ) : Type 0 where
  pub store : List (List ℕ × ℤ)
  pub listed : store ≡ entries (store_of store)
  pub cells : cell_in (store_of store) ≡ now_of m
  pub counted : count ≡ length store
