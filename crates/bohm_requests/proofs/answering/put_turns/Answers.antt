use Rattle.bohm_requests.proofs.Walking.{all_done}
use Rattle.bohm_requests.proofs.answering.put_turns.Goals as goal

pub returns : goal.returns
returns c = all_done _ _ _ _ _ _ _ _ c.turns.invariant c.in_default.ensures.cases
