use Rattle.bohm_log.specs.Parts.{Begins}
use Rattle.bohm_shapes.proofs.making.bound_names.Given as goal

abbrev pub invariant-loop-row : goal.invariant-loop-row
invariant-loop-row l = Begins l.values l.locals.items
