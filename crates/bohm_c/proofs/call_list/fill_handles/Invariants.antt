use Rattle.std.proofs.Common.{◌≡◌, map, take}
use Rattle.bohm_log.specs.Handles.{keys_named}
use Rattle.bohm_c.proofs.call_list.fill_handles.Given as goal

abbrev pub invariant-loop-name : goal.invariant-loop-name
invariant-loop-name l = keys_named l.handles.items ≡ map (λ n. n.now) (take l.name-index l.names)
