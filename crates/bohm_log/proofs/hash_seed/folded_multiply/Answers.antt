use Rattle.std.proofs.Common.{refl}
use Rattle.bohm_log.specs.Hashing.{folded}
use Rattle.bohm_log.proofs.hash_seed.folded_multiply.Goals as goal

pub returns : goal.returns
unfolding folded
returns c = refl
