use Rattle.std.proofs.Common.{refl, ap}
use Rattle.bohm_board.specs.declared.knowledge.View.{View}
use Rattle.bohm_exec.proofs.Counting.{counted_same}
use Rattle.bohm_exec.proofs.sweeper.Sweeper.step_on.Goals as goal

pub returns-in-Busy-clause-counted : goal.returns-in-Busy-clause-counted
returns-in-Busy-clause-counted g c = counted_same _ _ _ _ refl (ap (λ (z : View). z.finished) c.in-Busy.ensures.view)

pub returns-in-Done-clause-counted : goal.returns-in-Done-clause-counted
returns-in-Done-clause-counted g c = counted_same _ _ _ _ refl (ap (λ (z : View). z.finished) c.in-Done.ensures.view)
