use Rattle.bohm_run.proofs.OneAnswer.{one_answer, one_refusal, never_both}
use Rattle.bohm_run.proofs.laws.one_answer.Goals as goal

pub returns-clause-answer : goal.returns-clause-answer
returns-clause-answer c = one_answer

pub returns-clause-refusal : goal.returns-clause-refusal
returns-clause-refusal c = one_refusal

pub returns-clause-either : goal.returns-clause-either
returns-clause-either c = never_both
