use Rattle.std.proofs.Common.{get_or}
use Rattle.std.proofs.lemmas.List.{drop_more}
use Rattle.bohm_tidy.proofs.ByWords.{apart_more}
use Rattle.bohm_tidy.proofs.line.set_apart.Goals as goal

pub loop-byte-preserved : goal.loop-byte-preserved
loop-byte-preserved c = apart_more c.args.signs c.loop-byte.before c.args.bytes.now c.loop-byte.byte-index (get_or c.args.bytes.now c.loop-byte.byte-index 0)
    c.loop-byte.out.items _ _ (drop_more c.args.bytes.now c.loop-byte.byte-index 0 c.loop-byte-test.true) c.in_ok-put_byte.ensures c.loop-byte.invariant
