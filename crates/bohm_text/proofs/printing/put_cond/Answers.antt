use Rattle.bohm_log.proofs.ForCallers.{on_err}
use Rattle.bohm_text.proofs.Printed.{begins_behind}
use Rattle.bohm_text.proofs.printing.put_cond.Goals as goal

pub returns-in_err-put_sum-2-clause-err : goal.returns-in_err-put_sum-2-clause-err
returns-in_err-put_sum-2-clause-err c =
    on_err c.from_residual-in_err-put_sum-2.result
    (begins_behind c.args.out.now.items _ c.put_sum.new.out.items _ c.in_ok-put_sum.ensures.ok
    (begins_behind c.put_sum.new.out.items _ c.push.new.self.items _ c.in_ok-push.ensures.items
    (begins_behind c.push.new.self.items _ c.extend_from_slice.new.self.items _ c.in_ok-extend_from_slice.ensures.items
    c.in_err-put_sum-2.ensures.err)))
