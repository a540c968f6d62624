use Rattle.std.proofs.Common.{◌≡◌, ◌++◌, map, drop}
use Rattle.bohm_store.specs.Versions.{past}
use Rattle.bohm_store.proofs.history.History.add_cells.Given as goal

abbrev pub invariant-loop-place : goal.invariant-loop-place
invariant-loop-place l = l.cells.items ++ map (λ k. (k, past l.self l.self.top k)) (drop l.place l.keys)
    ≡ l.initial.cells.items ++ map (λ k. (k, past l.self l.self.top k)) l.keys
