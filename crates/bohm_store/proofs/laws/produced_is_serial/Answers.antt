use Rattle.bohm_store.proofs.ProducedVersions.{produced_state}
use Rattle.bohm_store.proofs.Runnable.{all_runnable}
use Rattle.bohm_store.proofs.laws.produced_is_serial.Goals as goal

pub returns : goal.returns
returns c = λ n ts look txns k well low high. produced_state n ts look txns k (all_runnable txns well) high low
