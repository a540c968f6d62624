-- What is seen is the work's.
use Rattle.bohm_shapes.proofs.running.holds.Goals as goal

pub holds-requires-clause-left : goal.holds-requires-clause-left
holds-requires-clause-left c = let s = c.sight.ensures in rw (s.keys, s.locals) c.requires.left

pub holds-requires-clause-right : goal.holds-requires-clause-right
holds-requires-clause-right c = let s = c.sight.ensures in rw (s.keys, s.locals) c.requires.right

pub returns : goal.returns
returns c = let s = c.sight.ensures in rw (s.keys, s.names, s.cells, s.locals) at c.holds.ensures
