use Rattle.bohm_text.proofs.WholeTxns.{bare, nothing_made_written, nothing_written, shorter, written_made, written_more}
use Rattle.bohm_text.proofs.whole_keys.take_writes.Goals as goal

pub keys-init : goal.keys-init
keys-init c = record {
  bytes = nothing_written c.args.text.now c.args.draft.now c.requires;
  made = nothing_made_written c.args.draft.now c.requires;
}

pub take_write-requires : goal.take_write-requires
take_write-requires c = bare c.keys.draft c.args.draft.now.txn.edition c.args.draft.now.txn.reads c.keys.draft.txn.writes c.keys.invariant.made

pub keys-smaller : goal.keys-smaller
keys-smaller c = shorter c.word_end-end.result c.keys.rest.now c.in-Some.front.now c.in-Some.ensures.some

pub keys-preserved : goal.keys-preserved
keys-preserved c = record {
  bytes = written_more c.args.text.now c.keys.rest.now c.in-Some.front.now c.word_of-word.result c.word_end-end.result c.keys.draft c.take_write.new.draft
      c.in-Some.ensures.some c.word_of-word.ensures c.in-Some-take_write.ensures c.keys.invariant.bytes;
  made = written_made c.keys.draft c.take_write.new.draft c.args.draft.now.txn.edition c.args.draft.now.txn.reads c.word_of-word.result
      c.in-Some-take_write.ensures c.keys.invariant.made;
}

pub returns : goal.returns
returns c = (c.keys.invariant.bytes, c.keys.invariant.made)
