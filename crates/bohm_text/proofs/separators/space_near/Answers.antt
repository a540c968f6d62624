use Rattle.std.proofs.Common.{arith}
use Rattle.bohm_text.proofs.Searches.{lowest_mark, mark_near}
use Rattle.bohm_text.proofs.separators.space_near.Goals as goal

pub returns-else-marks-eq0-clause-first : goal.returns-else-marks-eq0-clause-first
returns-else-marks-eq0-clause-first c = lowest_mark 32 8 c.args.bytes.now (omega arith) (omega (arith, c.if-bytes-lt-WORD_BLOCK.false)) c.if-marks-eq0.false

pub returns-else-marks-eq0-clause-near : goal.returns-else-marks-eq0-clause-near
returns-else-marks-eq0-clause-near c = mark_near 32 8 c.args.bytes.now (omega arith) (omega (arith, c.if-bytes-lt-WORD_BLOCK.false)) c.if-marks-eq0.false
