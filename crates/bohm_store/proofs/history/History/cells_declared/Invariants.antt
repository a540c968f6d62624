use Rattle.std.proofs.Common.{◌≡◌, map, take}
use Rattle.bohm_board.specs.Bases.{declared_keys}
use Rattle.bohm_store.specs.Versions.{past}
use Rattle.bohm_store.proofs.history.History.cells_declared.Given as goal

abbrev pub invariant-loop-index : goal.invariant-loop-index
invariant-loop-index l = l.cells.items ≡ map (λ k. (k, past l.self l.self.top k)) (declared_keys (take l.index l.txns))
