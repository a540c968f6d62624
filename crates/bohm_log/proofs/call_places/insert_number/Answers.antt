use Rattle.std.proofs.Common.{◌≡◌, ◌<◌, ◌∙◌, sym, ap, rules, length, get_or, List, ℕ}
use Rattle.std.specs.List.{insert}
use Rattle.bohm_log.specs.Layers.{all_names}
use Rattle.bohm_log.specs.Parts.{names_at}
use Rattle.bohm_log.proofs.Seeking.{is_read}
use Rattle.bohm_log.proofs.Placing.{number_before, number_at, number_after}
use Rattle.bohm_log.proofs.call_places.insert_number.Goals as goal

pub loop-i-preserved : goal.loop-i-preserved
loop-i-preserved c =
    let here : c.index.result.now ≡ get_or c.args.sorted.now.items c.loop-i.i c.index.result.now = c.index.ensures
    ∙ ap (λ (xs : List ℕ). get_or xs c.loop-i.i c.index.result.now) c.loop-i.invariant.0 in
    let within : c.loop-i.i < length c.args.sorted.now.items = search rules in (
      c.loop-i.invariant.0,
      number_after _ _ _ _ _ _ _ c.requires.id (is_read (all_names c.args.names) c.args.id _ c.name-name.ensures) c.requires.named within here
          (is_read (all_names c.args.names) c.index.result.now _ c.name.ensures)
          (sym c.cmp.ensures ∙ c.in-Greater.is) c.loop-i.invariant.1,
    )

pub returns-in-Less-clause-inserted : goal.returns-in-Less-clause-inserted
returns-in-Less-clause-inserted c =
    let here : c.index.result.now ≡ get_or c.args.sorted.now.items c.loop-i.i c.index.result.now = c.index.ensures
    ∙ ap (λ (xs : List ℕ). get_or xs c.loop-i.i c.index.result.now) c.loop-i.invariant.0 in
    let within : c.loop-i.i < length c.args.sorted.now.items = search rules in
    ap (names_at (all_names c.args.names)) (c.in_ok-insert-in-Less.ensures.items
    ∙ ap (λ (xs : List ℕ). insert xs c.loop-i.i c.args.id) c.loop-i.invariant.0)
    ∙ number_before _ _ _ _ _ _ _ c.requires.id (is_read (all_names c.args.names) c.args.id _ c.name-name.ensures) c.requires.named within here
    (is_read (all_names c.args.names) c.index.result.now _ c.name.ensures)
    (sym c.cmp.ensures ∙ c.in-Less.is) c.loop-i.invariant.1

pub returns-in-Equal-clause-inserted : goal.returns-in-Equal-clause-inserted
returns-in-Equal-clause-inserted c =
    let here : c.index.result.now ≡ get_or c.args.sorted.now.items c.loop-i.i c.index.result.now = c.index.ensures
    ∙ ap (λ (xs : List ℕ). get_or xs c.loop-i.i c.index.result.now) c.loop-i.invariant.0 in
    let within : c.loop-i.i < length c.args.sorted.now.items = search rules in
    ap (names_at (all_names c.args.names)) c.loop-i.invariant.0
    ∙ number_at _ _ _ _ _ _ _ c.requires.id (is_read (all_names c.args.names) c.args.id _ c.name-name.ensures) c.requires.named within here
    (is_read (all_names c.args.names) c.index.result.now _ c.name.ensures)
    (sym c.cmp.ensures ∙ c.in-Equal.is) c.loop-i.invariant.1
