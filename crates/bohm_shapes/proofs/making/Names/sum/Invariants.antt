use Rattle.std.proofs.Common.{◌≡◌, map, take}
use Rattle.bohm_log.specs.Parts.{term_of}
use Rattle.bohm_shapes.specs.Filled.{sum_filled}
use Rattle.bohm_shapes.proofs.making.Names.sum.Given as goal

abbrev pub invariant-loop-row : goal.invariant-loop-row
invariant-loop-row l = sum_filled l.self.locals.now l.self.keys.now l.sum.items ≡ map (term_of l.self.txn.now) (take l.row-index l.row-items)
