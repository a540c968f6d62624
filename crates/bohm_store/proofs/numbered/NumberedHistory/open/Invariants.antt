use Rattle.std.proofs.Common.{◌≡◌, map, take}
use Rattle.bohm_store.proofs.Opened.{first_held}
use Rattle.bohm_store.proofs.numbered.NumberedHistory.open.Given as goal

abbrev pub invariant-loop-value : goal.invariant-loop-value
invariant-loop-value l = l.newest.items ≡ map first_held (take l.value-index l.entries)
