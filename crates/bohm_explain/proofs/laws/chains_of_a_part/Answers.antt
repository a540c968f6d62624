use Rattle.bohm_explain.proofs.Drawn.{depth_is, depth_at, through_is, heaviest_is}
use Rattle.bohm_explain.proofs.laws.chains_of_a_part.Goals as goal

pub returns-clause-depth : goal.returns-clause-depth
returns-clause-depth c = depth_is

pub returns-clause-depth_at : goal.returns-clause-depth_at
returns-clause-depth_at c = depth_at

pub returns-clause-through : goal.returns-clause-through
returns-clause-through c = through_is

pub returns-clause-heaviest : goal.returns-clause-heaviest
returns-clause-heaviest c = heaviest_is
