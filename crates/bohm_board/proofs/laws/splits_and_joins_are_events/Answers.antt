use Rattle.bohm_board.proofs.StepEvents.{split_step, join_step}
use Rattle.bohm_board.proofs.laws.splits_and_joins_are_events.Goals as goal

pub returns-clause-split : goal.returns-clause-split
returns-clause-split c = λ b t s p v here. split_step b t s p v here

pub returns-clause-join : goal.returns-clause-join
returns-clause-join c = λ b t s p q v w here there apart free free_too. join_step b t s p v here q w free free_too apart there
