use Rattle.std.proofs.Common.{◌≡◌, ◌++◌, ◌<◌, ◌≤◌, ℕ, subst, arith}
use Rattle.std.specs.Prelude.{All}
use Rattle.bohm_store.specs.declared.version.Version.{Version}
use Rattle.bohm_store.specs.Versions.{kept_versions}
use Rattle.bohm_store.proofs.NewestVersion.{All-kept, Rises-kept}
use Rattle.bohm_store.specs.Held.{held_at}
use Rattle.bohm_store.specs.Numbered.{older_of}
use Rattle.bohm_store.specs.declared.older.Older.{Older}
use Rattle.bohm_store.proofs.OlderVersions.{one_each}
use Rattle.bohm_store.proofs.numbered.NumberedHistory.trim.Goals as goal

pub invariant_of-self : goal.invariant_of-self
invariant_of-self c =
    let was = c.self.invariant in
    let top = c.self.inside.top in
    let newest = c.self.inside.newest.items in
    let old = c.self.inside.older.items in
    let floor = c.args.floor in
    let low : floor ≤ top = rw (← c.self.view_is) at c.requires in
    let kept : (n : ℕ) → older_of c.trim.new.older.items n ++ held_at newest n ≡ kept_versions floor (older_of old n ++ held_at newest n) =
    λ n. c.trim.ensures.versions n top (held_at newest n) was.climbs (was.linked n) in
    record {
      ordered = low;
      low = λ n. rw (kept n) (All-kept (λ (v : Version). v.begin ≤ top) floor (older_of old n ++ held_at newest n) (was.low n));
      rising = λ n. rw (kept n) (Rises-kept floor (older_of old n ++ held_at newest n) (was.rising n));
      linked = λ n. c.trim.ensures.linked n (held_at newest n) (was.linked n);
      climbs = c.trim.ensures.climbs top was.climbs;
      due = c.trim.ensures.due top was.climbs;
    }

pub returns-clause-versions : goal.returns-clause-versions
returns-clause-versions c lt n =
    let was = c.self.invariant in
    rw (← c.self.view_is) (c.trim.ensures.versions n c.self.inside.top (held_at c.self.inside.newest.items n) was.climbs (was.linked n))

pub returns-clause-rising : goal.returns-clause-rising
returns-clause-rising c = rw (← c.self.view_is) c.self.invariant.rising

pub returns-then-floor-self-clause-rising : goal.returns-then-floor-self-clause-rising
returns-then-floor-self-clause-rising c = rw (← c.self.view_is) c.self.invariant.rising

pub returns-clause-one : goal.returns-clause-one
returns-clause-one c =
    let was = c.self.invariant in
    rw (← c.self.view_is) (λ at_top n. one_each c.self.inside.top c.trim.new.older.items c.self.inside.newest.items n
    (c.trim.ensures.climbs c.self.inside.top was.climbs)
    (subst (λ (t : ℕ). All (λ (o : Older). t < o.end) c.trim.new.older.items) at_top (c.trim.ensures.due c.self.inside.top was.climbs)))

pub returns-then-floor-self-clause-one : goal.returns-then-floor-self-clause-one
returns-then-floor-self-clause-one c =
    let was = c.self.invariant in
    rw (← c.self.view_is) (λ at_top n. (let same : c.self.inside.floor ≡ c.self.inside.top = omega (arith, at_top, was.ordered, c.if-floor-self.true) in
    one_each c.self.inside.top c.self.inside.older.items c.self.inside.newest.items n was.climbs
    (subst (λ (t : ℕ). All (λ (o : Older). t < o.end) c.self.inside.older.items) same was.due)))
