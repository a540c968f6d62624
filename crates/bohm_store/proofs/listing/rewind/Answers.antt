use Rattle.std.proofs.Common.{◌≡◌, ◌∙◌, ◌+◌, ◌-◌, ◌<◌, ◌==◌, ◌∷◌, [], ℕ, List, drop, ap, sym, refl, arith, if◌then◌else◌}
use Rattle.bohm_store.specs.declared.version.Version.{Version}
use Rattle.bohm_store.specs.Held.{held_at}
use Rattle.bohm_store.specs.Numbered.{first_after, version_of}
use Rattle.bohm_store.proofs.OlderVersions.{first_skips, first_step}
use Rattle.bohm_store.proofs.listing.rewind.Goals as goal

pub returns-then-one-ts : goal.returns-then-one-ts
returns-then-one-ts c n lt =
    let (top, rise) = c.requires in
    c.loop-i.invariant.held n lt ∙ sym (first_skips c.args.ts top c.args.older.now.items n (held_at c.args.newest.now n) c.loop-i.i
    c.at-one.result rise (omega arith) c.loop-i.invariant.inside c.at-one.ensures.item (omega arith))

pub loop-i-preserved : goal.loop-i-preserved
loop-i-preserved c =
    let os = c.args.older.now.items in
    let i = c.loop-i.i - 1 in
    let d = c.at-one.result in
    let next : i + 1 ≡ c.loop-i.i = omega arith in
    let late : c.args.ts < d.end = omega arith in
    record {
      inside = omega (arith, c.loop-i.invariant.inside);
      held = λ n lt. (
          let was = held_at c.args.newest.now n in
          let step = first_step c.args.ts os n was i d (d.number == n) (omega (arith, c.loop-i.invariant.inside)) c.at-one.ensures.item refl late in
          let before : first_after c.args.ts (drop (i + 1) os) n was ≡ held_at c.loop-i.newest n =
          ap (λ (j : ℕ). first_after c.args.ts (drop j os) n was) next ∙ sym (c.loop-i.invariant.held n lt) in
          c.put_back.ensures n (omega arith)
          ∙ sym (step ∙ ap (λ (vs : List Version). if (d.number == n) then version_of d ∷ [] else vs) before));
    }
