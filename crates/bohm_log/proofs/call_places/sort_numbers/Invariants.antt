use Rattle.std.proofs.Common.{◌≡◌, ◌-◌, length, drop}
use Rattle.bohm_types.specs.KeySets.{key_set}
use Rattle.bohm_log.specs.Columns.{AllNamed}
use Rattle.bohm_log.specs.Layers.{all_names}
use Rattle.bohm_log.specs.Parts.{names_at}
use Rattle.bohm_log.proofs.call_places.sort_numbers.Given as goal

abbrev pub invariant-loop-done : goal.invariant-loop-done
invariant-loop-done l = AllNamed (all_names l.names) l.sorted.items
    × (names_at (all_names l.names) l.sorted.items ≡ key_set (names_at (all_names l.names) (drop (length l.ids - l.done) l.ids)))
