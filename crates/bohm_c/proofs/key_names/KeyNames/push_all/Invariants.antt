use Rattle.std.proofs.Common.{◌≡◌, ◌++◌, take}
use Rattle.bohm_c.proofs.key_names.KeyNames.push_all.Given as goal

abbrev pub invariant-loop-handle : goal.invariant-loop-handle
invariant-loop-handle l = (l.calls ≡ l.initial.calls) × (l.self ≡ l.initial.self ++ take l.handle l.other)
