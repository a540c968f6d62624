use Rattle.std.proofs.Common.{◌≡◌, suc, ◌+◌, ◌-◌, length, ap, arith}
use Rattle.bohm_entries.proofs.Reading as lemma
use Rattle.bohm_entries.proofs.arguments.skip.Goals as goal

pub words-preserved : goal.words-preserved
words-preserved c =
    let more : c.args.count - c.words.counter ≡ suc (c.args.count - (c.words.counter + 1)) = omega arith in
    let size = ap length c.in-Some.ensures in
    let passed = c.words.invariant.passed in
    record {
      rest = lemma.one_dropped _ _ _ _ _ _ more c.in-Some.ensures c.words.invariant.rest;
      passed = omega arith;
    }
