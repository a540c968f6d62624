use Rattle.std.proofs.Common.{false}
use Rattle.std.proofs.lemmas.List.{get_or-replicate}
use Rattle.bohm_txn.proofs.bound.Bound.new.Goals as goal

pub returns : goal.returns
returns c = λ i few. get_or-replicate 64 i false false few
