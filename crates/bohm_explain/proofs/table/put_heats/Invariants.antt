use Rattle.std.proofs.Common.{◌≡◌, ◌++◌, take}
use Rattle.std.specs.List.{flat_map}
use Rattle.bohm_explain.specs.Table.{heat_line}
use Rattle.bohm_explain.proofs.table.put_heats.Given as goal

abbrev pub invariant-loop-heat : goal.invariant-loop-heat
invariant-loop-heat l = l.out.items ≡ l.initial.out.items ++ flat_map heat_line (take l.heat-index l.heats)
