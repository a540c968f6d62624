use Rattle.std.proofs.Common.{◌≡◌}
use Rattle.bohm_log.specs.Layers.{all_names}
use Rattle.bohm_log.proofs.Placing.{BelowUpTo}
use Rattle.bohm_log.proofs.call_places.insert_number.Given as goal

abbrev pub invariant-loop-i : goal.invariant-loop-i
invariant-loop-i l = (l.sorted.items ≡ l.fn.sorted.items) × BelowUpTo (all_names l.names) l.fn.sorted.items l.id l.i
