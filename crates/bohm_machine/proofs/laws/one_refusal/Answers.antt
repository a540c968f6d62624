use Rattle.bohm_machine.proofs.Resting.{one_refusal, taken_or_refused}
use Rattle.bohm_machine.proofs.laws.one_refusal.Goals as goal

pub returns-clause-refusal : goal.returns-clause-refusal
returns-clause-refusal c = one_refusal

pub returns-clause-either : goal.returns-clause-either
returns-clause-either c = taken_or_refused
