use Rattle.bohm_log.proofs.ForCallers.{on_err}
use Rattle.bohm_text.proofs.Printed.{begins_behind, begins_twice}
use Rattle.bohm_text.proofs.printing.put_stmt.Goals as goal

pub returns-in_err-put_sum-in-Bind-clause-err : goal.returns-in_err-put_sum-in-Bind-clause-err
returns-in_err-put_sum-in-Bind-clause-err c =
    on_err c.from_residual-in_err-put_sum-in-Bind.result
    (begins_twice c.args.out.now.items _ _ c.put_key.new.out.items _ c.in_ok-put_key-in-Bind.ensures.ok
    (begins_behind c.put_key.new.out.items _ c.extend_from_slice.new.self.items _ c.in_ok-extend_from_slice-in-Bind.ensures.items
    c.in_err-put_sum-in-Bind.ensures.err))

pub returns-in_err-put_sum-in-Put-clause-err : goal.returns-in_err-put_sum-in-Put-clause-err
returns-in_err-put_sum-in-Put-clause-err c =
    on_err c.from_residual-in_err-put_sum-in-Put.result
    (begins_twice c.args.out.now.items _ _ c.put_key-in-Put.new.out.items _ c.in_ok-put_key-in-Put.ensures.ok
    (begins_behind c.put_key-in-Put.new.out.items _ c.extend_from_slice-in-Put.new.self.items _ c.in_ok-extend_from_slice-in-Put.ensures.items
    c.in_err-put_sum-in-Put.ensures.err))

pub returns-in_err-put_guard-in-Put-clause-err : goal.returns-in_err-put_guard-in-Put-clause-err
returns-in_err-put_guard-in-Put-clause-err c =
    on_err c.from_residual-in_err-put_guard-in-Put.result
    (begins_twice c.args.out.now.items _ _ c.put_key-in-Put.new.out.items _ c.in_ok-put_key-in-Put.ensures.ok
    (begins_behind c.put_key-in-Put.new.out.items _ c.extend_from_slice-in-Put.new.self.items _ c.in_ok-extend_from_slice-in-Put.ensures.items
    (begins_behind c.extend_from_slice-in-Put.new.self.items _ c.put_sum-in-Put.new.out.items _ c.in_ok-put_sum-in-Put.ensures.ok
    c.in_err-put_guard-in-Put.ensures.err)))
