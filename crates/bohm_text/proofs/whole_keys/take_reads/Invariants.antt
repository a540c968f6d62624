use Rattle.std.proofs.Common.{◌≡◌, [], length}
use Rattle.bohm_text.specs.Transactions.{KeysRead, declared}
use Rattle.bohm_text.proofs.whole_keys.take_reads.Given as goal

abbrev pub invariant-keys : goal.invariant-keys
invariant-keys l = record {
  bytes : KeysRead l.fn.text l.rest l.draft.txn.reads;
  made : l.draft ≡ declared l.fn.draft.txn.edition l.draft.txn.reads [];
}

abbrev pub decreases-keys : goal.decreases-keys
decreases-keys l = length l.rest
