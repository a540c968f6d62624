use Rattle.std.proofs.Common.{◌≡◌, take}
use Rattle.bohm_log.specs.Handles.{keys_named}
use Rattle.bohm_procedures.proofs.calls.fill_handles.Given as goal

abbrev pub invariant-loop-key : goal.invariant-loop-key
invariant-loop-key l = keys_named l.handles.items ≡ take l.key-index l.keys
