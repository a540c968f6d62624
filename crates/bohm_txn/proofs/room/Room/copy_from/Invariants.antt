use Rattle.std.proofs.Common.{◌≡◌, ◌≤◌, take, vec_capacity}
use Rattle.bohm_txn.proofs.room.Room.copy_from.Given as goal

abbrev pub invariant-loop-value : goal.invariant-loop-value
invariant-loop-value g l = record {
  room : l.self-inside.limit ≤ vec_capacity l.self-inside.values;
  same_limit : l.self-inside.limit ≡ l.initial.self-inside.limit;
  so_far : l.self-inside.values.items ≡ take l.value-index l.values;
}
