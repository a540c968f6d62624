use Rattle.std.proofs.Common.{◌≡◌, map, take}
use Rattle.bohm_log.specs.Calling.{declared_name}
use Rattle.bohm_log.proofs.template.declared_names.Given as goal

abbrev pub invariant-loop-name : goal.invariant-loop-name
invariant-loop-name l = l.declared.items ≡ map (declared_name l.params) (take l.name-index l.names)
