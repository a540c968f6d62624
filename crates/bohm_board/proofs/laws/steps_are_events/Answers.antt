use Rattle.std.proofs.Common.{refl}
use Rattle.bohm_board.specs.Batches.{position}
use Rattle.bohm_board.specs.Shown.{presence_place, value_place}
use Rattle.bohm_board.proofs.StepEvents.{status_step, claim_step, finish_step, presence_step, value_step, store_step, fill_step}
use Rattle.bohm_board.proofs.laws.steps_are_events.Goals as goal

pub returns-clause-status : goal.returns-clause-status
returns-clause-status c = λ b t s p v u n here is e apart. status_step b t s p v here u (position b u) n is refl e apart

pub returns-clause-claim : goal.returns-clause-claim
returns-clause-claim c = λ b t s p v u n here is e free. claim_step b t s p v here u (position b u) n is refl e free

pub returns-clause-finish : goal.returns-clause-finish
returns-clause-finish c = λ b t s p v u o here is. finish_step b t s p v here u (position b u) o is refl

pub returns-clause-look_presence : goal.returns-clause-look_presence
returns-clause-look_presence c = λ b t s p v x n here is e. presence_step b t s p v here x (presence_place b x) n is refl e

pub returns-clause-look_value : goal.returns-clause-look_value
returns-clause-look_value c = λ b t s p v x n here is e known. value_step b t s p v here x (value_place b x) n is refl e known

pub returns-clause-fill_value : goal.returns-clause-fill_value
returns-clause-fill_value c = λ b t s p v x n here is. store_step b t s p v here x (value_place b x) n is refl

pub returns-clause-fill_presence : goal.returns-clause-fill_presence
returns-clause-fill_presence c = λ b t s p v x d here is. fill_step b t s p v here x (presence_place b x) d is refl
