use Rattle.std.proofs.Common.{◌≡◌, ◌∷◌, ◌++◌, take}
use Rattle.std.specs.List.{flat_map}
use Rattle.bohm_explain.specs.Json.{heat_json}
use Rattle.bohm_explain.proofs.json.put_heats.Given as goal

abbrev pub invariant-loop-heat : goal.invariant-loop-heat
invariant-loop-heat l = l.out.items ≡ l.initial.out.items ++ flat_map (λ y. 44 ∷ heat_json y) (take l.heat-index l.others)
