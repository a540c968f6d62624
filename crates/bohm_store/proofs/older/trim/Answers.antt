use Rattle.std.proofs.Common.{◌≡◌, ◌<◌, ◌∷◌, ◌∙◌, [], sym}
use Rattle.std.proofs.lemmas.List.Elements.{All-nil}
use Rattle.bohm_store.specs.Numbered.{EndsRise, IsLinked}
use Rattle.bohm_store.proofs.OlderVersions.{all_dropped, all_due, dropped, kept_due, linked_none}
use Rattle.bohm_store.proofs.Rewound.{all_low}
use Rattle.bohm_store.proofs.older.trim.Goals as goal

pub returns-then-are_due-clause-versions : goal.returns-then-are_due-clause-versions
returns-then-are_due-clause-versions c n top held rise linked =
    let os = c.args.older.now.items in
    let low = all_low c.args.floor top os rise (c.are_due.ensures.due c.if-are_due.true) in
    let alone : IsLinked [] n held = linked_none os n held linked in
    rw c.clear.ensures.items (sym (all_dropped c.args.floor os n held low linked ∙ kept_due c.args.floor [] n held (All-nil (λ o. c.args.floor < o.end)) alone))

pub returns-then-are_due-clause-linked : goal.returns-then-are_due-clause-linked
returns-then-are_due-clause-linked c n held linked = rw c.clear.ensures.items (linked_none c.args.older.now.items n held linked)

pub loop-preserved : goal.loop-preserved
loop-preserved c =
    let o = c.in-Some.field-0 in
    let new = c.take_due.new.self.items in
    let at : c.loop.older.items ≡ o ∷ new = c.in-Some.ensures.0 in
    record {
      versions = λ n held linked. (
          let was = c.loop.invariant.versions n held linked in
          let step = dropped c.args.floor o new n held c.in-Some.ensures.1 (rw at at was.1) in
          (sym step.0 ∙ rw at at was.0, step.1));
      climbs = λ top rise. (let was : EndsRise top (o ∷ new) = rw at at (c.loop.invariant.climbs top rise) in was.2);
    }

pub returns-clause-versions : goal.returns-clause-versions
returns-clause-versions c n top held rise linked =
    let at = c.in_default.ensures.0 in
    let was = c.loop.invariant.versions n held linked in
    let due = all_due c.args.floor top c.loop.older.items c.in_default.ensures.1 (c.loop.invariant.climbs top rise) in
    rw at (sym (kept_due c.args.floor c.loop.older.items n held due was.1) ∙ was.0)

pub returns-clause-linked : goal.returns-clause-linked
returns-clause-linked c n held linked = rw c.in_default.ensures.0 ((c.loop.invariant.versions n held linked).1)

pub returns-clause-due : goal.returns-clause-due
returns-clause-due c top rise =
    rw c.in_default.ensures.0 (all_due c.args.floor top c.loop.older.items c.in_default.ensures.1 (c.loop.invariant.climbs top rise))

pub returns-clause-climbs : goal.returns-clause-climbs
returns-clause-climbs c top rise = rw c.in_default.ensures.0 (c.loop.invariant.climbs top rise)
