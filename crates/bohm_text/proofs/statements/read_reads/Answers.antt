use Rattle.std.proofs.Common.{sym, ◌∙◌}
use Rattle.bohm_log.specs.Drafting.{with_read}
use Rattle.bohm_text.specs.Taking.{with_reads}
use Rattle.bohm_text.proofs.KeyLoops.{keys_more, keys_bad, keys_end, reads_step, reads_stay}
use Rattle.bohm_text.proofs.statements.read_reads.Goals as goal

pub words-preserved : goal.words-preserved
words-preserved c =
    record {
      bare = rw c.in_ok-read.ensures.ok
          (record { body = c.words.invariant.bare.body; done = c.words.invariant.bare.done; latest = c.words.invariant.bare.latest });
      so_far = rw c.in_ok-read.ensures.ok (keys_more with_read with_reads reads_step reads_stay c.args.draft.now c.words.draft c.args.words.now c.words.words
          c.words.invariant.so_far c.next_packed.new.self c.in-Some.word c.in-Some-of_word.key c.in-Some.ensures
          (sym c.of_word.ensures ∙ c.in-Some-of_word.is));
    }

pub returns-in_default-of_word : goal.returns-in_default-of_word
returns-in_default-of_word c =
    keys_bad with_read with_reads reads_step reads_stay c.args.draft.now c.words.draft c.args.words.now c.words.words c.words.invariant.so_far
    c.next_packed.new.self c.in-Some.word c.in-Some.ensures (sym c.of_word.ensures ∙ c.in_default-of_word.is)

pub returns : goal.returns
returns c = keys_end with_read with_reads reads_step reads_stay c.args.draft.now c.words.draft c.args.words.now c.words.words c.words.invariant.so_far
    c.in_default.ensures.0
