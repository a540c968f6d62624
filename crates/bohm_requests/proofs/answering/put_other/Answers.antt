use Rattle.std.proofs.Common.{refl}
use Rattle.bohm_requests.proofs.Walking.{on_ok}
use Rattle.bohm_requests.proofs.answering.put_other.Goals as goal

pub returns-in-Cell : goal.returns-in-Cell
returns-in-Cell c = on_ok _ _ c.put_cell_after.result (λ x. rw c.in-Cell.is (refl, (x.0, x.1, λ left. x.2))) c.put_cell_after.ensures
