use Rattle.std.proofs.Common.{◌≡◌, suc, ◌+◌, ◌-◌, sym, arith}
use Rattle.bohm_entries.specs.declared.refusal.Refusal.TheVariants as refusal_is
use Rattle.bohm_entries.proofs.Reading as lemma
use Rattle.bohm_entries.proofs.arguments.read_keys.Goals as goal

pub returns-in_default-clause-found : goal.returns-in_default-clause-found
returns-in_default-clause-found c = lemma.keys_ended c.words.keys.items _ _ _ c.in_default.ensures.0 c.words.invariant

pub words-preserved : goal.words-preserved
words-preserved c =
    let more : c.args.count - c.words.counter ≡ suc (c.args.count - (c.words.counter + 1)) = omega arith in
    rw c.in_ok-push.ensures.items (lemma.key_taken c.words.keys.items c.in-Some-new.key c.in-Some.word.now c.words.rest c.next.new.self _ _ _ more
    c.in-Some.ensures (sym c.in-Some-new.ensures) c.words.invariant)

pub returns-clause-found : goal.returns-clause-found
returns-clause-found c = lemma.keys_taken c.words.keys.items c.words.rest (c.args.count - c.words.counter) _ (omega arith) c.words.invariant

pub returns-in_default-new-clause-refused : goal.returns-in_default-new-clause-refused
returns-in_default-new-clause-refused c r is =
    let more : c.args.count - c.words.counter ≡ suc (c.args.count - (c.words.counter + 1)) = omega arith in
    let same : refusal_is.Key ≡ r = cc in (
      sym same,
      lemma.key_bad c.words.keys.items c.in-Some.word.now c.words.rest c.next.new.self _ _ _ more c.in-Some.ensures
          (sym c.in_default-new.ensures) c.words.invariant,
    )
