use Rattle.std.proofs.Common.{rules, ◌≡◌, ℕ, ◌+◌, ◌++◌, refl, ◌∷◌, [], List, length, take, ap, sym, subst, ◌∙◌, append_assoc, append-nil, length-append, arith}
use Rattle.std.specs.Vec.Iter.{into_iter_items}
use Rattle.std.proofs.lemmas.List.{length-take-le}
use Rattle.bohm_types.specs.Txn.{Txn}
use Rattle.bohm_txn.specs.declared.outcome.Reply.{Reply}
use Rattle.bohm_txn.specs.Serial.{replies}
use Rattle.bohm_txn.proofs.ForCallers.{length-replies}
use Rattle.bohm_store.specs.Versions.{past}
use Rattle.bohm_place.specs.Plans.{Planned}
use Rattle.bohm_place.specs.CutLogs.{cutting_of}
use Rattle.bohm_place.specs.Cuttings.{ahead}
use Rattle.bohm_apply.specs.Runs.{IsApplied}
use Rattle.bohm_log.proofs.ForCallers.{on_err}
use Rattle.bohm_apply.proofs.Going.{at_rest, stayed}
use Rattle.bohm_apply.proofs.Swept.{nothing_left}
use Rattle.bohm_apply.proofs.Walks.{all_ahead, inside, plan_there, walked_on}
use Rattle.bohm_apply.proofs.executing.Executor.run_planned.Goals.{In-None}
use Rattle.bohm_apply.proofs.executing.Executor.run_planned.Goals as goal

pub batch-txns-requires-clause-place : goal.batch-txns-requires-clause-place
batch-txns-requires-clause-place g c =
    let at = c.loop-plan in
    let whole : at.yielded ++ c.in-Some.plan ∷ into_iter_items c.next.new.self ≡ c.args.plans.items =
    ap (λ (xs : List Planned). at.yielded ++ xs) (sym c.in-Some.ensures.steps.0) ∙ at.invariant.items in
    omega (
      arith,
      (plan_there (cutting_of c.args.log) at.yielded c.in-Some.plan
          (into_iter_items c.next.new.self) c.args.plans.items whole c.requires.plans).0,
      at.invariant.place,
    )

pub run_batch-requires-clause-first : goal.run_batch-requires-clause-first
run_batch-requires-clause-first g c κs within =
    let at = c.loop-plan in
    let log = cutting_of c.args.log in
    let whole : at.yielded ++ c.in-Some.plan ∷ into_iter_items c.next.new.self ≡ c.args.plans.items =
    ap (λ (xs : List Planned). at.yielded ++ xs) (sym c.in-Some.ensures.steps.0) ∙ at.invariant.items in
    let there = plan_there log at.yielded c.in-Some.plan (into_iter_items c.next.new.self) c.args.plans.items whole c.requires.plans in
    let ran : length (take at.start log.log) ≡ at.start = length-take-le at.start log.log (inside log at.place at.start c.args.log.whole at.invariant.start) in
    let here = at.invariant.start ∙ ap (ahead log.sizes) at.invariant.place in
    omega (arith, there.1.first, here, at.invariant.applied.top, ran, c.requires.first)

pub run_batch-requires-clause-batched : goal.run_batch-requires-clause-batched
run_batch-requires-clause-batched g c κs within =
    let at = c.loop-plan in
    let log = cutting_of c.args.log in
    let whole : at.yielded ++ c.in-Some.plan ∷ into_iter_items c.next.new.self ≡ c.args.plans.items =
    ap (λ (xs : List Planned). at.yielded ++ xs) (sym c.in-Some.ensures.steps.0) ∙ at.invariant.items in
    let there = plan_there log at.yielded c.in-Some.plan (into_iter_items c.next.new.self) c.args.plans.items whole c.requires.plans in
    let here = ap (ahead log.sizes) at.invariant.place in
    let batch = c.batch-txns.ensures in
    record {
      some = batch.some;
      few = batch.few;
      timestamps = omega (arith, there.1.first, here, batch.inside);
      formed = batch.formed;
      right = rw (batch.txns, at.invariant.place) there.1.right;
    }

pub overflow_add-place : goal.overflow_add-place
overflow_add-place g c = omega (
  arith,
  c.batch-txns.ensures.inside,
  c.batch-txns.ensures.some,
  c.loop-plan.invariant.low,
  c.loop-plan.invariant.start,
  c.requires.first,
)

pub loop-plan-init : goal.loop-plan-init
loop-plan-init g c = record {
  items = c.into_iter-plan-iterator.ensures.into_iter_gives.0;
  left = search rules;
  place = refl;
  low = omega arith;
  start = refl;
  keep = refl;
  applied = at_rest c.args.history.now c.args.self.now.keep;
  answered = (g.met.S.ReplySink g.world.𝓛 g.world.𝓜 g.world.𝓡 ((λ s x. x), (λ x. x), (λ x. x), λ x. x)).nothing (c.args.history.now.top + 1)
      c.args.answered.now;
}

pub loop-plan-preserved : goal.loop-plan-preserved
loop-plan-preserved g c =
    let at = c.loop-plan in
    let was = at.invariant in
    let log = cutting_of c.args.log in
    let keep = c.args.self.now.keep in
    let before = c.args.history.now in
    let x = c.in-Some.plan in
    let rest = into_iter_items c.next.new.self in
    let steps = c.in-Some.ensures.steps in
    let whole : at.yielded ++ x ∷ rest ≡ c.args.plans.items = ap (λ (xs : List Planned). at.yielded ++ xs) (sym steps.0) ∙ was.items in
    let there = plan_there log at.yielded x rest c.args.plans.items whole c.requires.plans in
    let txns = c.batch-txns.result in
    let next = c.batch-txns.ensures in
    let new = c.run_batch.new.history in
    let answered = c.run_batch.new.answered in
    let old = c.args.answered.now in
    let told = replies (past before before.top) (take at.start log.log) in
    let own = replies (past at.history at.history.top) txns in
    let done : IsApplied at.history new txns keep own =
    subst (λ (k : ℕ). IsApplied at.history new txns k own) was.keep c.in_ok-run_batch.ensures.applied in
    let on = walked_on before at.history new log at.place at.start keep told txns c.requires.ordered (omega (arith, there.0, was.place)) was.start next.txns
    next.ahead was.applied done in
    let ran : length told ≡ at.start = length-replies (past before before.top) (take at.start log.log)
    ∙ length-take-le at.start log.log (inside log at.place at.start c.args.log.whole was.start) in
    let number : at.history.top + 1 ≡ (before.top + 1) + length told =
    omega (arith, was.applied.top, ran, length-take-le at.start log.log (inside log at.place at.start c.args.log.whole was.start)) in
    record {
      items = append_assoc at.yielded (x ∷ []) rest ∙ whole;
      left = omega (arith, was.left, steps.1, ap length steps.0);
      place = omega (arith, was.place, length-append at.yielded (x ∷ []));
      low = omega (arith, was.low, next.some, c.len-start.ensures);
      start = omega (arith, next.ahead, c.len-start.ensures);
      keep = c.run_batch.ensures.keep ∙ was.keep;
      applied = rw c.len-start.ensures (subst (λ (rs : List Reply). IsApplied before new (take (at.start + length txns) log.log) keep rs) on.replies on);
      answered = rw c.len-start.ensures (subst (λ (rs : List Reply). g.S.ReplySink.appended (before.top + 1) old rs answered) on.replies
          ((g.met.S.ReplySink g.world.𝓛 g.world.𝓜 g.world.𝓡 ((λ s x. x), (λ x. x), (λ x. x), λ x. x)).joined
          (before.top + 1) old at.answered answered told own was.answered
          (subst (λ (n : ℕ). g.S.ReplySink.appended n at.answered own answered) number c.in_ok-run_batch.ensures.answered)));
    }

-- all batches are the whole log
all_run : (g : _) (c : In-None g) → take c.loop-plan.start (cutting_of c.args.log).log ≡ (cutting_of c.args.log).log
all_run g c =
    let at = c.loop-plan in
    let was = at.invariant in
    let empty : into_iter_items at.plan-iterator ≡ [] = nothing_left (into_iter_items at.plan-iterator) (sym was.left ∙ c.in-None.ensures.steps.0) in
    let all : at.yielded ≡ c.args.plans.items = sym (append-nil at.yielded) ∙ (let h = was.items in rw empty at h) in
    all_ahead (cutting_of c.args.log) at.place at.start (was.place ∙ (ap length all ∙ c.requires.plans.count)) was.start c.args.log.whole

pub returns-clause-applied : goal.returns-clause-applied
returns-clause-applied g c =
    let at = c.loop-plan in
    subst (λ (txns : List Txn). IsApplied c.args.history.now at.history txns c.args.self.now.keep
    (replies (past c.args.history.now c.args.history.now.top) txns)) (all_run g (goal.at.returns-clause-applied g c).In-None) at.invariant.applied

pub returns-in_err-run_batch-clause-stopped : goal.returns-in_err-run_batch-clause-stopped
returns-in_err-run_batch-clause-stopped g c =
    let at = c.loop-plan in
    let was = c.args.history.now in
    let log = (cutting_of c.args.log).log in
    let told = replies (past was was.top) (take at.start log) in
    let refused = c.in_err-run_batch.ensures in
    on_err c.from_residual.result (record {
      run = at.start;
      batches = (at.place, at.invariant.start);
      applied = stayed was at.history c.run_batch.new.history (take at.start log) c.args.self.now.keep told refused.same at.invariant.applied;
      told = rw refused.unanswered at.invariant.answered;
    })

pub returns-clause-answered : goal.returns-clause-answered
returns-clause-answered g c =
    let at = c.loop-plan in
    subst (λ (txns : List Txn). g.S.ReplySink.appended (c.args.history.now.top + 1) c.args.answered.now
    (replies (past c.args.history.now c.args.history.now.top) txns) at.answered) (all_run g (goal.at.returns-clause-answered g c).In-None) at.invariant.answered
