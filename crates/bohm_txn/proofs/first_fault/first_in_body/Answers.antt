use Rattle.std.proofs.Common.{sym, subst, take}
use Rattle.std.proofs.lemmas.List.{take_more}
use Rattle.bohm_txn.specs.Rows.{AreNoted}
use Rattle.bohm_txn.proofs.Checking.{body_searched}
use Rattle.bohm_txn.proofs.first_fault.first_in_body.Goals as goal

pub returns-in-Some : goal.returns-in-Some
returns-in-Some c =
    λ e. rw (
      body_searched e c.args.txn.now c.rows-rows.result.now c.loop-i.i _ c.stmt_fault.result c.rows-rows.ensures.rows c.loop-i-test.true
          (c.stmt_fault.ensures e),
      c.in-Some.is,
    ) at (c.loop-i.invariant.0 e)

pub loop-i-preserved : goal.loop-i-preserved
loop-i-preserved c = (
  λ e. rw (
    body_searched e c.args.txn.now c.rows-rows.result.now c.loop-i.i _ c.stmt_fault.result c.rows-rows.ensures.rows c.loop-i-test.true
        (c.stmt_fault.ensures e),
    c.in_default.is,
  ) at (c.loop-i.invariant.0 e),
  subst (AreNoted c.note.new.self.noted) (sym (take_more c.rows-rows.result.now c.loop-i.i _ c.loop-i-test.true))
      (c.note.ensures (take c.loop-i.i c.rows-rows.result.now) c.loop-i.invariant.1),
)
