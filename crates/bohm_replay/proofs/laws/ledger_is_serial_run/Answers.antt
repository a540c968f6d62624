use Rattle.bohm_replay.proofs.SerialRun as lemma
use Rattle.bohm_replay.proofs.laws.ledger_is_serial_run.Goals as goal

pub returns : goal.returns
returns c = λ s bs. lemma.batches_run s bs
