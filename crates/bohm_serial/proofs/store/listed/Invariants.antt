use Rattle.std.proofs.Common.{◌≡◌, ◌++◌}
use Rattle.bohm_serial.proofs.store.listed.Given as goal

abbrev pub invariant-loop-key : goal.invariant-loop-key
invariant-loop-key l = l.list.items ++ l.key-iterator ≡ l.values.entries
