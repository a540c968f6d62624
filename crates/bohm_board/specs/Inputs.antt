-- The cells that a position is evaluated over, by its plan.
use Rattle.std.specs.Prelude.{◌≡◌, ℕ, ◌+◌, List, length, Some, slice_get}
use Rattle.bohm_types.specs.declared.cell.Cell.{Cell}
use Rattle.bohm_types.specs.Txn.{Txn}
use Rattle.bohm_txn.specs.Meaning.{Look, body}
use Rattle.bohm_place.specs.declared.access.Access.{Access}
use Rattle.bohm_place.specs.declared.access.Source.{Source}
use Rattle.bohm_place.specs.declared.access.Source.TheVariants.{Before, Within}
use Rattle.bohm_board.specs.declared.batch.Batch.{Batch}
use Rattle.bohm_board.specs.declared.knowledge.Rights.{Rights}
use Rattle.bohm_board.specs.Serial.{own_cells}
use Rattle.bohm_board.specs.Batches.{base_of, right_cell, IsRightCell}

-- the cell is the one that this source has for the key
abbrev pub IsCellFrom : Batch → List ℕ → ℕ → Cell → Source → Type 0
IsCellFrom b k index c Before = c ≡ base_of b k
IsCellFrom b k index c (Within u) = IsRightCell b (record { txn = u; index = index }) c

abbrev pub IsCellOf : Batch → List ℕ → Access → Cell → Type 0
IsCellOf b k a c = IsCellFrom b k a.index c a.source

-- each of these cells is the cell of its key, by the key's access
pub record AreCellsOf (b : Batch) (keys : List (List ℕ)) (accesses : List Access) (cells : List Cell) : Type 0 where
  pub paired : length keys ≡ length cells
  pub each : (j : ℕ) (k : List ℕ) (a : Access) (c : Cell) → slice_get keys j ≡ Some k → slice_get accesses j ≡ Some a → slice_get cells j ≡ Some c
      → IsCellOf b k a c

-- over these two stores a transaction has the same outcome and leaves the same cells
pub record EndsAlike (look other : Look) (t : Txn) : Type 0 where
  pub bodies : body look t ≡ body other t
  pub cells : own_cells look t ≡ own_cells other t

-- these are the right cells of the slots from n on
abbrev pub AreRight : Rights → ℕ → List Cell → Type 0
AreRight r n cells = (j : ℕ) (c : Cell) → slice_get cells j ≡ Some c → right_cell r (n + j) ≡ Some c
