use Rattle.std.proofs.Common.{◌≡◌, ◌++◌, drop}
use Rattle.bohm_txn.proofs.key_lists.add_keys.Given as goal

abbrev pub invariant-loop-place : goal.invariant-loop-place
invariant-loop-place l = l.list.items ++ drop l.place l.keys ≡ l.initial.list.items ++ l.keys
