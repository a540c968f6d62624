use Rattle.std.proofs.Common.{◌≡◌, take}
use Rattle.bohm_board.specs.Bases.{declared_keys}
use Rattle.bohm_store.proofs.declared.declared_keys.Given as goal

abbrev pub invariant-loop-index : goal.invariant-loop-index
invariant-loop-index l = l.keys.items ≡ declared_keys (take l.index l.txns)
