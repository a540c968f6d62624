use Rattle.bohm_text.proofs.TermLoops.{last_not_ended, last_taken}
use Rattle.bohm_text.proofs.sums.read_last_sum.Goals as goal

pub returns-in-End : goal.returns-in-End
returns-in-End c =
    last_taken c.args.draft.now c.read_sum.new.draft c.args.words.now (rw c.in-End.is at c.in_ok-read_sum.ensures)

pub returns-in-When : goal.returns-in-When
returns-in-When c = last_not_ended c.in_ok-read_sum.field-0 c.args.draft.now c.read_sum.new.draft c.args.words.now c.read_sum.new.words
    c.in_ok-read_sum.ensures c.in-When.is
