use Rattle.std.proofs.Common.{◌≡◌, length}
use Rattle.bohm_text.specs.Transactions.{KeysRead, declared}
use Rattle.bohm_text.proofs.whole_keys.take_writes.Given as goal

abbrev pub invariant-keys : goal.invariant-keys
invariant-keys l = record {
  bytes : KeysRead l.fn.text l.rest l.draft.txn.writes;
  made : l.draft ≡ declared l.fn.draft.txn.edition l.fn.draft.txn.reads l.draft.txn.writes;
}

abbrev pub decreases-keys : goal.decreases-keys
decreases-keys l = length l.rest
