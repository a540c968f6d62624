use Rattle.std.proofs.Common.{◌≡◌, ◌<◌, ℕ, List, All, refl, sym, ◌∙◌, arith, length-append, length-set}
use Rattle.std.proofs.lemmas.List.Elements.{All-push, All-set}
use Rattle.bohm_place.specs.declared.placeholder.Placeholder.{Placeholder}
use Rattle.bohm_place.specs.declared.by_number.NumberJob.{NumberJob}
use Rattle.bohm_place.proofs.Lists.{each_pushed}
use Rattle.bohm_place.proofs.parallel.jobs.Goals as goal

pub loop-number-preserved : goal.loop-number-preserved
loop-number-preserved c =
    let n = c.len-count.result in
    let at = c.loop-number.number in
    let arrays = c.loop-number.arrays.items in
    let jobs = c.loop-number.jobs.items in
    let was = c.loop-number.invariant in
    let taken : (t : ℕ) → All (λ a. All (λ v. v.begin < t) a) arrays → All (λ v. v.begin < t) c.replace-newest.result = λ t h.
    rw (c.replace-newest.ensures.value, c.index_mut.ensures.value) (h at _ (omega arith)) in
    let left : (t : ℕ) → All (λ v. v.begin < t) c.replace-newest.new.dest =
    λ t. rw (c.replace-newest.ensures.after, c.new.ensures) (λ k d low. absurd (omega arith)) in
    rw c.in_ok-push.ensures.items (record {
      count = length-append jobs _ ∙ omega (arith, was.count);
      same = length-set arrays at c.replace-newest.new.dest ∙ was.same;
      workers = λ w d low. each_pushed (λ v (p : NumberJob). (p.worker.number ≡ v) × (p.worker.count ≡ n)) jobs _ (λ v e l. was.workers v e (omega arith))
          (sym was.count, refl) w d (omega arith);
      below = λ t early. All-push (λ (p : NumberJob). All (λ v. v.begin < t) p.newest) jobs _ (was.below t early) (taken t (was.rest t early));
      rest = λ t early. All-set (λ (a : List Placeholder). All (λ v. v.begin < t) a) arrays at c.replace-newest.new.dest (left t) (was.rest t early);
    })
