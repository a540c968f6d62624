use Rattle.std.proofs.Common.{arith}
use Rattle.bohm_log.specs.Columns.{shared_of}
use Rattle.bohm_log.proofs.Failing.{on_err}
use Rattle.bohm_log.proofs.Widening.{interns_both, sets_come, come_last}
use Rattle.bohm_log.proofs.columns.Columns.add_sets.Goals as goal

pub returns-in_err-add_written-clause-err : goal.returns-in_err-add_written-clause-err
returns-in_err-add_written-clause-err g c = on_err _ (interns_both _ _ _ c.in_ok-add_names.ensures.ok.interns c.in_err-add_written.ensures.err)

pub returns-in_err-end-clause-err : goal.returns-in_err-end-clause-err
returns-in_err-end-clause-err g c = on_err _ (interns_both _ _ _ c.in_ok-add_names.ensures.ok.interns c.in_ok-add_written.ensures.ok.interns)

pub returns-clause-ok : goal.returns-clause-ok
returns-clause-ok g c =
    sets_come (shared_of c.args.self.now) (shared_of c.add_names.new.self) (shared_of c.add_written.new.self) _ _ _ _ _
    (omega (arith, c.in_ok-start.ensures.ok)) c.in_ok-add_names.ensures.ok (omega (arith, c.in_ok-middle.ensures.ok))
    c.in_ok-add_written.ensures.ok (omega (arith, c.in_ok-end.ensures.ok))
    (omega (arith, c.in_ok-add_names.ensures.few, c.in_ok-add_written.ensures.few))

pub add_written-requires : goal.add_written-requires
add_written-requires g c = come_last _ _ c.args.reads.now c.in_ok-start.start (omega (arith, c.in_ok-start.ensures.ok)) c.in_ok-add_names.ensures.ok
