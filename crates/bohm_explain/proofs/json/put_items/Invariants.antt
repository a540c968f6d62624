use Rattle.std.proofs.Common.{◌≡◌, ◌∷◌, ◌++◌, take}
use Rattle.std.specs.List.{flat_map}
use Rattle.bohm_explain.specs.Json.{part_json}
use Rattle.bohm_explain.proofs.json.put_items.Given as goal

abbrev pub invariant-loop-part : goal.invariant-loop-part
invariant-loop-part l = l.out.items ≡ l.initial.out.items ++ flat_map (λ y. 44 ∷ part_json y) (take l.part-index l.others)
