use Rattle.std.proofs.Common.{◌≡◌, ◌∙◌, ◌+◌, ◌-◌, ◌≤◌, ◌==◌, ◌∷◌, [], true, false, ℕ, List, length, drop, ap, sym, arith}
use Rattle.std.proofs.lemmas.Bool.Decides.{nat_tests}
use Rattle.std.proofs.lemmas.List.{drop_all}
use Rattle.bohm_types.specs.declared.cell.Cell.TheVariants as cells
use Rattle.bohm_store.specs.declared.older.Older.{Older}
use Rattle.bohm_store.specs.declared.version.Version.{Version}
use Rattle.bohm_store.specs.Versions.{cell_at}
use Rattle.bohm_store.specs.Held.{held_versions}
use Rattle.bohm_store.specs.Numbered.{first_after}
use Rattle.bohm_store.proofs.OlderVersions.{first_passes, first_skips, first_step}
use Rattle.bohm_store.proofs.older.cell_before.Goals as goal

pub returns-then-one-ts : goal.returns-then-one-ts
returns-then-one-ts c =
    let (top, rise) = c.requires in
    c.loop-i.invariant.cell
    ∙ ap (λ (vs : List Version). cell_at c.args.ts vs cells.Absent) (sym (first_skips c.args.ts top c.args.older.now.items c.args.number
    (held_versions c.args.newest) c.loop-i.i c.at-one.result rise (omega arith) c.loop-i.invariant.inside c.at-one.ensures.item (omega arith)))

pub loop-i-init : goal.loop-i-init
loop-i-init c =
    let os = c.args.older.now.items in
    let n = c.args.number in
    let held = held_versions c.args.newest in
    let i = c.latest-i.result in
    let inside : i ≤ length os = c.latest-i.ensures.inside in
    let end : i + (length os - i) ≡ length os = omega arith in
    let d : Older = record { number = 0; end = 0; begin = 0; others = 0; cell = cells.Absent } in
    let passes = first_passes c.args.ts os n held d i (length os - i) (omega arith) (λ j low high. c.latest-i.ensures.none j d low (omega arith)) in
    let none : first_after c.args.ts (drop i os) n held ≡ held = passes
    ∙ ap (λ (j : ℕ). first_after c.args.ts (drop j os) n held) end
    ∙ ap (λ (ps : List Older). first_after c.args.ts ps n held) (drop_all (length os) os (omega arith)) in
    record { inside = inside; cell = c.cell_then-cell.ensures ∙ ap (λ (vs : List Version). cell_at c.args.ts vs cells.Absent) (sym none) }

pub loop-i-preserved-then-one-number : goal.loop-i-preserved-then-one-number
loop-i-preserved-then-one-number c =
    let os = c.args.older.now.items in
    let n = c.args.number in
    let held = held_versions c.args.newest in
    let i = c.loop-i.i - 1 in
    let d = c.at-one.result in
    let own : (d.number == n) ≡ true = (let e = c.if-one-number.true in grind (arith, nat_tests)) in
    let step = first_step c.args.ts os n held i d true (omega (arith, c.loop-i.invariant.inside)) c.at-one.ensures.item own (omega arith) in
    let from = c.saturating_sub-i.result in
    let near : from ≡ i - d.others = c.saturating_sub-i.ensures in
    let next : from + (i - from) ≡ i = omega arith in
    let passes = first_passes c.args.ts os n held d from (i - from) (omega (arith, c.loop-i.invariant.inside))
    (λ j low high same. c.at-one.ensures.others j d (omega arith) (omega arith) (omega (arith, same, c.if-one-number.true))) in
    record {
      inside = omega (arith, c.loop-i.invariant.inside);
      cell = c.cell_or-cell.ensures
          ∙ ap (λ (v : Version). cell_at c.args.ts (v ∷ []) cells.Absent) c.version-version.ensures
          ∙ ap (λ (vs : List Version). cell_at c.args.ts vs cells.Absent) (sym (passes ∙ ap (λ (j : ℕ). first_after c.args.ts (drop j os) n held) next ∙ step));
    }

pub loop-i-preserved : goal.loop-i-preserved
loop-i-preserved c =
    let os = c.args.older.now.items in
    let n = c.args.number in
    let held = held_versions c.args.newest in
    let i = c.loop-i.i - 1 in
    let d = c.at-one.result in
    let other : (d.number == n) ≡ false = (let e = c.if-one-number.false in grind (arith, nat_tests)) in
    let next : i + 1 ≡ c.loop-i.i = omega arith in
    let step = first_step c.args.ts os n held i d false (omega (arith, c.loop-i.invariant.inside)) c.at-one.ensures.item other (omega arith) in
    record {
      inside = omega (arith, c.loop-i.invariant.inside);
      cell =
          c.loop-i.invariant.cell
          ∙ ap (λ (vs : List Version). cell_at c.args.ts vs cells.Absent) (sym (step ∙ ap (λ (j : ℕ). first_after c.args.ts (drop j os) n held) next));
    }
