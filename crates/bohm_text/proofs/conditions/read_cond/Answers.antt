use Rattle.bohm_text.specs.Reading.{cond_of, ending}
use Rattle.bohm_text.proofs.Ended.{sum_long, not_compared}
use Rattle.bohm_text.proofs.conditions.read_cond.Goals as goal

pub returns-in_err-next_sum : goal.returns-in_err-next_sum
returns-in_err-next_sum c =
    not_compared c.in_err-next_sum.field-0.0 c.read_sum.new.draft.latest
    (sum_long c.args.draft.now c.read_sum.new.draft c.args.words.now (ending c.in_ok-cmp.field-0 c.read_sum.new.words) c.in_ok-cmp.ensures)
    (λ _. c.in_err-next_sum.ensures.empty)
    c.from_residual-in_err-next_sum.result (cond_of c.args.words.now) c.args.draft.now c.next_sum.new.self c.from_residual-in_err-next_sum.ensures.1
