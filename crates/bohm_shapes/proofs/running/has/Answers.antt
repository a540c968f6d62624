-- What is seen is the work's.
use Rattle.bohm_shapes.proofs.running.has.Goals as goal

pub has-requires : goal.has-requires
has-requires c = let s = c.sight.ensures in rw s.keys c.requires.within

pub returns : goal.returns
returns c = let s = c.sight.ensures in rw (s.keys, s.cells) at c.has.ensures
