use Rattle.std.proofs.Common.{◌≡◌, ap, sym, ◌∙◌}
use Rattle.bohm_log.specs.Drafting.{Drafted, with_write}
use Rattle.bohm_text.specs.Taking.{with_writes}
use Rattle.bohm_text.proofs.KeyLoops.{keys_more, keys_bad, keys_end, writes_step, writes_stay}
use Rattle.bohm_text.proofs.statements.read_writes.Goals as goal
use Rattle.bohm_text.proofs.Again.{key_again}

pub words-preserved : goal.words-preserved
words-preserved c =
    let done = c.if-not-branch.false in
    let now : c.write_again.new.self ≡ with_write c.words.draft c.in-Some.word = c.in_ok-write_again.ensures.added done in
    record {
      bare = rw now (record
          { body = c.words.invariant.bare.body; done = c.words.invariant.bare.done; latest = c.words.invariant.bare.latest });
      so_far = rw now (keys_more with_write with_writes writes_step writes_stay c.args.draft.now c.words.draft c.args.words.now
          c.words.words c.words.invariant.so_far c.next_packed.new.self c.in-Some.word c.in-Some.word c.in-Some.ensures
          (key_again c.in-Some.word (c.in_ok-write_again.ensures.name done)));
    }

pub words-preserved-in_ok-write : goal.words-preserved-in_ok-write
words-preserved-in_ok-write c =
    let now : c.write.new.self ≡ with_write c.words.draft c.in-Some-of_word.key =
    c.in_ok-write.ensures.ok ∙ ap (λ (d : Drafted). with_write d c.in-Some-of_word.key) (c.in_ok-write_again.ensures.none c.if-not-branch.true) in
    record {
      bare = rw now (record
          { body = c.words.invariant.bare.body; done = c.words.invariant.bare.done; latest = c.words.invariant.bare.latest });
      so_far = rw now (keys_more with_write with_writes writes_step writes_stay c.args.draft.now c.words.draft c.args.words.now
          c.words.words c.words.invariant.so_far c.next_packed.new.self c.in-Some.word c.in-Some-of_word.key c.in-Some.ensures
          (sym c.of_word.ensures ∙ c.in-Some-of_word.is));
    }

pub returns-in_default-of_word : goal.returns-in_default-of_word
returns-in_default-of_word c =
    keys_bad with_write with_writes writes_step writes_stay c.args.draft.now c.words.draft c.args.words.now c.words.words c.words.invariant.so_far
    c.next_packed.new.self c.in-Some.word c.in-Some.ensures (sym c.of_word.ensures ∙ c.in_default-of_word.is)

pub returns : goal.returns
returns c = keys_end with_write with_writes writes_step writes_stay c.args.draft.now c.words.draft c.args.words.now c.words.words c.words.invariant.so_far
    c.in_default.ensures.0
