use Rattle.std.proofs.Common.{◌≡◌, ◌++◌, drop}
use Rattle.bohm_log.specs.Layers.{all_names}
use Rattle.bohm_store.specs.Chains.{timeline_entries_at}
use Rattle.bohm_store.specs.Held.{held_at}
use Rattle.bohm_store.specs.Numbered.{named}
use Rattle.bohm_store.proofs.listing.present.Given as goal

abbrev pub invariant-loop-i : goal.invariant-loop-i
invariant-loop-i l =
    l.out.items ++ timeline_entries_at l.ts (named (held_at l.newest) l.i (drop l.i (all_names l.names)))
    ≡ timeline_entries_at l.ts (named (held_at l.newest) 0 (all_names l.names))
