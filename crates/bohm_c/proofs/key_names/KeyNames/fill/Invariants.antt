use Rattle.std.proofs.Common.{◌≡◌, take}
use Rattle.bohm_log.specs.Handles.{keys_named}
use Rattle.bohm_log.specs.Parts.{names_at}
use Rattle.bohm_c.proofs.key_names.KeyNames.fill.Given as goal

abbrev pub invariant-loop-handle : goal.invariant-loop-handle
invariant-loop-handle l = keys_named l.keys.items ≡ names_at l.self (take l.handle-index l.handles)
