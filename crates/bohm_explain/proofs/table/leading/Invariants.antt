use Rattle.std.proofs.Common.{◌≡◌, take}
use Rattle.bohm_explain.specs.Table.{longest, leading}
use Rattle.bohm_explain.proofs.table.leading.Given as goal

abbrev pub invariant-loop-heat : goal.invariant-loop-heat
invariant-loop-heat l = record { longest : l.longest ≡ longest (take l.heat-index l.ranked); first : l.leading ≡ leading (take l.heat-index l.ranked) }
