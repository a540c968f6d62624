use Rattle.std.proofs.Common.{◌≡◌, ◌++◌, take}
use Rattle.bohm_txn.proofs.replies.Replies.push_all.Given as goal

abbrev pub invariant-loop-index : goal.invariant-loop-index
invariant-loop-index l = l.self ≡ l.fn.self ++ take l.index l.more
