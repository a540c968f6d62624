-- What registers hold of a call: the cells over which it is evaluated, and then its results.
use Rattle.std.specs.Prelude.{ℤ, List}
use Rattle.bohm_types.specs.declared.cell.Cell.{Cell}

pub record Results : Type 0 where
  pub cells : List Cell
  pub shows : List ℤ
