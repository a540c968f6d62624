use Rattle.bohm_replay.proofs.Replied as lemma
use Rattle.bohm_replay.proofs.laws.answers_are_serial_replies.Goals as goal

pub returns : goal.returns
returns c = λ s es spelled. lemma.batch_told s es spelled
