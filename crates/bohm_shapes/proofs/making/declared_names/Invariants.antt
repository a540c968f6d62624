use Rattle.bohm_log.specs.Parts.{Begins}
use Rattle.bohm_shapes.proofs.making.declared_names.Given as goal

abbrev pub invariant-loop-place : goal.invariant-loop-place
invariant-loop-place l = Begins l.writes l.names.items
