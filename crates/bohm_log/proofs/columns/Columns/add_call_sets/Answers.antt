use Rattle.std.proofs.Common.{ap, length, arith}
use Rattle.bohm_log.specs.Columns.{shared_of}
use Rattle.bohm_log.proofs.Failing.{on_err}
use Rattle.bohm_log.proofs.Widening.{interns_both, sets_come, come_last}
use Rattle.bohm_log.proofs.columns.Columns.add_call_sets.Goals as goal

pub returns-in_err-add_written_set-clause-err : goal.returns-in_err-add_written_set-clause-err
returns-in_err-add_written_set-clause-err g c = on_err _ (interns_both _ _ _ c.in_ok-add_set.ensures.ok.interns c.in_err-add_written_set.ensures.err)

pub returns-in_err-end-clause-err : goal.returns-in_err-end-clause-err
returns-in_err-end-clause-err g c = on_err _ (interns_both _ _ _ c.in_ok-add_set.ensures.ok.interns c.in_ok-add_written_set.ensures.ok.interns)

pub returns-clause-ok : goal.returns-clause-ok
returns-clause-ok g c =
    sets_come (shared_of c.args.self.now) (shared_of c.add_set.new.self) (shared_of c.add_written_set.new.self) _ _ _ _ _
    (omega (arith, c.in_ok-start.ensures.ok)) (rw c.as_slice.ensures.value at c.in_ok-add_set.ensures.ok)
    (omega (arith, c.in_ok-middle.ensures.ok)) c.in_ok-add_written_set.ensures.ok (omega (arith, c.in_ok-end.ensures.ok))
    (omega (
      arith,
      c.in_ok-add_set.ensures.few,
      c.in_ok-add_written_set.ensures.few,
      ap length c.as_slice.ensures.value,
      c.requires.reads,
      c.requires.writes,
    ))

pub add_written_set-requires-clause-end : goal.add_written_set-requires-clause-end
add_written_set-requires-clause-end g c =
    come_last _ _ _ c.in_ok-start.start (omega (arith, c.in_ok-start.ensures.ok)) (rw c.as_slice.ensures.value at c.in_ok-add_set.ensures.ok)
