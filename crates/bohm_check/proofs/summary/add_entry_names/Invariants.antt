use Rattle.std.proofs.Common.{◌≡◌, ◌++◌, take}
use Rattle.bohm_types.specs.Keys.{names_of}
use Rattle.bohm_check.proofs.summary.add_entry_names.Given as goal

abbrev pub invariant-loop-entry : goal.invariant-loop-entry
invariant-loop-entry l = l.names.items ≡ l.initial.names.items ++ names_of (take l.entry-index l.store)
