use Rattle.std.proofs.Common.{◌≡◌, ◌∙◌, ◌<◌, List, [], ◌∷◌, ◌++◌, codes, false, length, ap, rules, arith}
use Rattle.std.specs.Prelude.{◌==◌}
use Rattle.std.specs.List.{flat_map}
use Rattle.std.proofs.lemmas.List.{take_all}
use Rattle.bohm_explain.specs.declared.heat.Heat.{Heat}
use Rattle.bohm_explain.specs.Table.{heat_line, heat_lines}
use Rattle.bohm_explain.proofs.Appended.{more}
use Rattle.bohm_explain.proofs.table.put_heats.Goals as goal

pub returns : goal.returns
unfolding heat_lines
returns c =
    let hs = c.args.heats.now in
    let some : 0 < length hs = search (rules, arith) in
    let none : (length hs == 0) ≡ false = grind (arith, some) in
    let rows : c.loop-heat.out.items ≡ c.put.new.out.items ++ flat_map heat_line hs = c.loop-heat.invariant
    ∙ ap (λ (ys : List Heat). c.put.new.out.items ++ flat_map heat_line ys) (take_all c.loop-heat.heat-index hs c.loop-heat-test.false) in
    rw none (more c.args.out.now.items _ _ (codes "\nhottest keys                      writers   readers    chain\n" ∷ []) (flat_map heat_line hs)
    c.in_ok-put.ensures rows)
