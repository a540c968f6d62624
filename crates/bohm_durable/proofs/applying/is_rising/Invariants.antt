use Rattle.std.proofs.Common.{◌≡◌, drop}
use Rattle.bohm_types.specs.Keys.{names_of, rising}
use Rattle.bohm_durable.proofs.Changing.{rises_behind}
use Rattle.bohm_durable.proofs.applying.is_rising.Given as goal

abbrev pub invariant-loop-key : goal.invariant-loop-key
invariant-loop-key l = rising (names_of l.entries) ≡ rises_behind l.last (names_of (drop l.key-index l.entries))
