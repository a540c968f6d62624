use Rattle.std.proofs.Common.{◌≡◌, map, take}
use Rattle.bohm_log.specs.Parts.{stmt_of}
use Rattle.bohm_shapes.specs.Filled.{stmt_filled}
use Rattle.bohm_shapes.proofs.making.Names.steps.Given as goal

abbrev pub invariant-loop-row : goal.invariant-loop-row
invariant-loop-row l = map (stmt_filled l.self.locals.now l.self.keys.now) l.steps.items ≡ map (stmt_of l.self.txn.now) (take l.row-index l.rows)
