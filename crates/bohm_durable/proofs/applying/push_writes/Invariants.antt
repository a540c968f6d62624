use Rattle.std.proofs.Common.{◌≡◌, ◌++◌, take}
use Rattle.bohm_durable.proofs.applying.push_writes.Given as goal

abbrev pub invariant-keys : goal.invariant-keys
invariant-keys l = l.changed.items ≡ l.fn.changed.items ++ take l.place l.writes
