use Rattle.std.proofs.Common.{◌≡◌, take}
use Rattle.bohm_types.specs.Keys.{names_of}
use Rattle.bohm_store.proofs.history.names_in.Given as goal

abbrev pub invariant-loop-key : goal.invariant-loop-key
invariant-loop-key l = l.names ≡ names_of (take l.key-index l.entries)
