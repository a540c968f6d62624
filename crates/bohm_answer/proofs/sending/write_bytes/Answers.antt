use Rattle.bohm_answer.proofs.Fronts.{sent_front}
use Rattle.bohm_answer.proofs.sending.write_bytes.Goals as goal

pub returns-in-Err-clause-err : goal.returns-in-Err-clause-err
returns-in-Err-clause-err g c = sent_front _ _ _ _ c.in-Err.ensures.err
