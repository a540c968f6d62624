use Rattle.std.proofs.Common.{◌≡◌, map, take}
use Rattle.bohm_store.specs.Versions.{past}
use Rattle.bohm_store.proofs.history.History.cells_at_top.Given as goal

abbrev pub invariant-loop-key : goal.invariant-loop-key
invariant-loop-key l = l.cells.items ≡ map (λ k. (k, past l.self l.self.top k)) (take l.key-index l.keys)
