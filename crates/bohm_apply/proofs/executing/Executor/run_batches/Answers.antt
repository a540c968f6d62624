use Rattle.std.proofs.Common.{rules, arith, refl, ◌≡◌, ◌+◌, ◌++◌, List, All, suc, ◌∷◌, [], length}
use Rattle.std.proofs.Common.{length-append, Option, None, Some, IsSome, ap, sym, ◌∙◌, take, true, false}
use Rattle.std.proofs.lemmas.List.Elements.{All-push}
use Rattle.std.proofs.lemmas.List.{length-take-le}
use Rattle.bohm_place.specs.Plans.{Planned}
use Rattle.bohm_place.specs.CutLogs.{cutting_of}
use Rattle.bohm_place.specs.Cuttings.{Cutting, IsPlanAt}
use Rattle.bohm_apply.specs.declared.plan_queue.note.PlanNote.{PlanNote}
use Rattle.bohm_apply.proofs.Going.{at_rest, stayed}
use Rattle.bohm_apply.proofs.Walks.{walked_on, walk_ends, inside}
use Rattle.bohm_apply.proofs.executing.Executor.run_batches.Goals as goal

pub loop-place-init : goal.loop-place-init
loop-place-init g c =
    let none : length c.args.receiver.now.notes ≡ 0 = ap length c.requires.untaken in
    (none, (λ k d within. absurd (omega (arith, none, within))), refl, refl, rw c.requires.unanswered (at_rest c.args.progress.history c.args.self.keep))

pub returns-in_default-clause-walk : goal.returns-in_default-clause-walk
returns-in_default-clause-walk g c =
    let h = c.loop-place.invariant in
    walk_ends c.args.progress.history c.loop-place.progress.history (cutting_of c.args.log) c.loop-place.place c.loop-place.start c.args.self.keep
    c.loop-place.progress.replies false c.args.log.whole h.2 (λ t. absurd cc) (rw h.3 at h.4)

pub run_batch-requires-clause-first : goal.run_batch-requires-clause-first
run_batch-requires-clause-first g c κs within =
    let h = c.loop-place.invariant in
    let log = cutting_of c.args.log in
    let at : IsPlanAt log c.loop-place.place c.in-Some.plan = rw (c.requires.cutting, h.0) at c.take-note.ensures.note.plan c.in-Some.plan c.in-Some.is in
    let run : length (take c.loop-place.start log.log) ≡ c.loop-place.start =
    length-take-le c.loop-place.start log.log (inside log c.loop-place.place c.loop-place.start c.args.log.whole h.2) in
    let first : c.in-Some.plan.first ≡ c.loop-place.progress.history.top + 1 = omega (arith, at.first, c.requires.first, h.2, h.4.top, run) in
    ap (λ (p : Planned). p.first) c.in-Some.plan-is ∙ first

pub run_batch-requires-clause-batched : goal.run_batch-requires-clause-batched
run_batch-requires-clause-batched g c κs within =
    let h = c.loop-place.invariant in
    let log = cutting_of c.args.log in
    let at : IsPlanAt log c.loop-place.place c.in-Some.plan = rw (c.requires.cutting, h.0) at c.take-note.ensures.note.plan c.in-Some.plan c.in-Some.is in
    let batch = c.batch-txns.ensures in
    rw c.in-Some.plan-is (record {
      some = batch.some;
      few = batch.few;
      timestamps = omega (arith, at.first, batch.inside);
      formed = batch.formed;
      right = rw batch.txns at.right;
    })

pub drain-requires-clause-open : goal.drain-requires-clause-open
drain-requires-clause-open g c =
    let there : IsSome c.take-note.result.plan = search rules in
    rw c.take-note.ensures.taken (All-push (λ (x : PlanNote). IsSome x.plan) c.loop-place.receiver.notes c.take-note.result c.loop-place.invariant.1 there)

pub returns-in-Err-clause-walk : goal.returns-in-Err-clause-walk
returns-in-Err-clause-walk g c =
    let h = c.loop-place.invariant in
    let same = c.in-Err.ensures in
    let log = cutting_of c.args.log in
    let on = stayed c.args.progress.history c.loop-place.progress.history c.run_batch.new.history
    (take c.loop-place.start log.log) c.args.self.keep c.loop-place.progress.replies same.same (rw h.3 at h.4) in
    walk_ends c.args.progress.history c.run_batch.new.history log c.loop-place.place c.loop-place.start c.args.self.keep
    c.run_batch.new.answered false c.args.log.whole h.2 (λ t. absurd cc) (rw same.unanswered on)

pub loop-place-preserved : goal.loop-place-preserved
loop-place-preserved g c =
    let h = c.loop-place.invariant in
    let log = cutting_of c.args.log in
    let there : IsSome c.take-note.result.plan = search rules in
    let goes = c.in_default-run_batch.ensures in
    let next = c.batch-txns.ensures in
    let on = walked_on c.args.progress.history c.loop-place.progress.history c.run_batch.new.history log c.loop-place.place c.loop-place.start
    c.args.self.keep c.loop-place.progress.replies c.batch-txns.result c.requires.ordered (search rules) h.2 next.txns next.ahead (rw h.3 at h.4)
    (rw h.3 at goes.applied) in
    rw c.len-start.ensures (
      omega (arith, ap length c.take-note.ensures.taken, length-append c.loop-place.receiver.notes (c.take-note.result ∷ []), h.0),
      rw c.take-note.ensures.taken (All-push (λ (x : PlanNote). IsSome x.plan) c.loop-place.receiver.notes c.take-note.result h.1 there),
      sym next.ahead,
      c.run_batch.ensures.keep ∙ h.3,
      rw (c.run_batch.ensures.keep ∙ h.3, goes.answered) on,
    )

pub returns-clause-walk : goal.returns-clause-walk
returns-clause-walk g c =
    let h = c.loop-place.invariant in
    walk_ends c.args.progress.history c.loop-place.progress.history (cutting_of c.args.log) c.loop-place.place c.loop-place.start c.args.self.keep
    c.loop-place.progress.replies true c.args.log.whole h.2 (λ t. search rules) (rw h.3 at h.4)

-- a property of all notes holds for the last one
last_of : (P : PlanNote → Type 0) (xs : List PlanNote) (x : PlanNote) → All P (xs ++ x ∷ []) → P x
last_of P [] x all = all 0 x (omega arith)
last_of P (y ∷ ys) x all = last_of P ys x (λ k d within. all (suc k) d (omega (arith, within)))

not_none : (o : Option Planned) → o ≡ None → IsSome o → ⊥
not_none None none some = cc
not_none (Some plan) none some = cc

pub returns-in_default-clause-drained : goal.returns-in_default-clause-drained
returns-in_default-clause-drained g c = λ open_.
    let there : IsSome c.take-note.result.plan =
    last_of (λ (x : PlanNote). IsSome x.plan) c.loop-place.receiver.notes c.take-note.result (rw c.take-note.ensures.taken at open_) in
    absurd (not_none c.take-note.result.plan c.in_default.is there)

pub returns-clause-drained : goal.returns-clause-drained
returns-clause-drained g c = λ open_.
    let sizes : length g.L.Line.cutting.sizes ≡ length (cutting_of c.args.log).sizes = ap (λ (x : Cutting). length x.sizes) c.requires.cutting in
    omega (arith, sizes, c.loop-place.invariant.0)
