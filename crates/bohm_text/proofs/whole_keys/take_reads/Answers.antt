use Rattle.std.proofs.Common.{[], sym, ◌∙◌}
use Rattle.bohm_text.proofs.WholeTxns.{bare, nothing_made, nothing_read, read_made, read_more_keys, shorter}
use Rattle.bohm_text.proofs.whole_keys.take_reads.Goals as goal

pub keys-init : goal.keys-init
keys-init c = record {
  bytes = nothing_read c.args.text.now c.args.draft.now c.requires;
  made = nothing_made c.args.draft.now c.requires;
}

pub read-requires : goal.read-requires
read-requires c = bare c.keys.draft c.args.draft.now.txn.edition c.keys.draft.txn.reads [] c.keys.invariant.made

pub keys-smaller : goal.keys-smaller
keys-smaller c = shorter c.word_end-end.result c.keys.rest.now c.in-Some.front.now c.in-Some.ensures.some

pub keys-preserved : goal.keys-preserved
keys-preserved c = record {
  bytes = read_more_keys c.args.text.now c.keys.rest.now c.in-Some.front.now c.word_of-word.result c.word_end-end.result c.keys.draft c.read.new.self
      c.args.draft.now.txn.edition c.in-Some-of_word.key c.in-Some.ensures.some c.word_of-word.ensures (sym c.of_word.ensures ∙ c.in-Some-of_word.is)
      c.in-Ok.ensures.ok c.keys.invariant.bytes;
  made = read_made c.args.text.now c.keys.rest.now c.in-Some.front.now c.word_of-word.result c.word_end-end.result c.keys.draft c.read.new.self
      c.args.draft.now.txn.edition c.in-Some-of_word.key c.in-Some.ensures.some c.word_of-word.ensures (sym c.of_word.ensures ∙ c.in-Some-of_word.is)
      c.in-Ok.ensures.ok c.keys.invariant.made;
}

pub returns : goal.returns
returns c = (c.keys.invariant.bytes, c.keys.invariant.made)
