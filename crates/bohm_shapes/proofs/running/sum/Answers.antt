-- What is seen is the work's.
use Rattle.bohm_shapes.proofs.running.sum.Goals as goal

pub sum-requires : goal.sum-requires
sum-requires c = let s = c.sight.ensures in rw (s.keys, s.locals) c.requires.within

pub returns : goal.returns
returns c = let s = c.sight.ensures in rw (s.keys, s.names, s.cells, s.locals) at c.sum.ensures
